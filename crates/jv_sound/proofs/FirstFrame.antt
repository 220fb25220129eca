-- A method that is no `<init>` begins with local variables as its initial frame has them.
use Rattle.std.proofs.Common.{◌≡◌, ℕ, ◌+◌, ◌≤◌, Bool, true, false, List, [], ◌∷◌, length, map, Option, Some, None, refl, sym, ap, subst, ◌∙◌, arith}
use Rattle.std.specs.Prelude.{if◌then◌else◌}
use Rattle.std.specs.List.{flat_map}
use Rattle.std.proofs.lemmas.List.Sums.{sum_by-cons}
use Rattle.jv_text.specs.declared.descriptor.FieldTypeOf.{FieldTypeOf}
use Rattle.jv_text.specs.Descriptor.{MethodDescriptor, slots}
use Rattle.jv_text.specs.Name.{is_init}
use Rattle.jv_text.specs.Types.{method_type_of}
use Rattle.jv_stackmap.specs.declared.verification.VerificationTypeOf.TheVariants as types
use Rattle.jv_stackmap.specs.Types.{value_type, words}
use Rattle.jv_stackmap.specs.Initial.{initial_entries}
use Rattle.jv_code.specs.Insns.{Instruction}
use Rattle.jv_meaning_world.specs.World.{World}
use Rattle.jv_meaning_world.specs.Overriding.{Declared}
use Rattle.jv_meaning_typing.specs.Kind.{is_static_method}
use Rattle.jv_meaning_typing.specs.Environment.{Environment, IsEnvironment, instruction_at, instruction_from}
use Rattle.jv_meaning_typing.specs.Typing.{first_frame, entries_before, argument_words, is_static}
use Rattle.jv_meaning_machine.specs.Values.{Value}
use Rattle.jv_meaning_machine.specs.Frames.{MethodFrame}
use Rattle.jv_meaning_machine.specs.State.{Program}
use Rattle.jv_meaning_machine.specs.Entering.{passed_values, entered_frame, method_frame}
use Rattle.jv_sound.specs.Values.{Zip, Fits, IsObject, Heap, Place, Item}
use Rattle.jv_sound.specs.Memory.{AreLoadable}
use Rattle.jv_sound.specs.Sound.{IsChecked, IsEnterable, IsSound, AreSorts}
use Rattle.jv_sound.specs.Frames.{Holds, place_of, IsRunning}
use Rattle.jv_sound.specs.Effects.{ArePassed, IsReceiver}
use Rattle.jv_sound.proofs.Logic.{clash, holds, then_holds}
use Rattle.jv_sound.proofs.Types.{sort_item}
use Rattle.jv_sound.proofs.Leads.{begins}
use Rattle.jv_sound.proofs.Entering.{entered_ok, filled_ok}
use Rattle.jv_sound.proofs.Frames.{arrives}

-- code begins with an instruction
pub first_there : (env : Environment) → IsEnvironment env → (insn : Instruction) × (instruction_at env 0 ≡ Some insn)
first_there env is = by_list env.instructions refl
  where
    by_list : (all : List Instruction) → env.instructions ≡ all → (insn : Instruction) × (instruction_at env 0 ≡ Some insn)
    by_list [] e =
        let none : env.code.code ≡ [] = is.instructions.spelled ∙ ap (flat_map Rattle.jv_code.specs.Insns.insn_bytes) e in
        absurd (omega (arith, is.instructions.some, ap length none))
    by_list (insn ∷ more) e = (insn, ap (λ (all : List Instruction). instruction_from 0 all 0) e)

-- sorts are items
pub sorts_are_items : (p : Place) (ts : List (FieldTypeOf (List ℕ))) (vs : List Value) → AreSorts ts
    → Zip (Fits p.method.world p.heap.objects) (map value_type ts) vs → Zip (Item p) (map value_type ts) vs
sorts_are_items p [] [] s f = tt
sorts_are_items p (t ∷ ts) (v ∷ vs) s f = (sort_item p (value_type t) v s.0 f.0, sorts_are_items p ts vs s.1 f.1)
sorts_are_items p [] (v ∷ vs) s f = absurd f
sorts_are_items p (t ∷ ts) [] s f = absurd f

module _ (program : Program) (sound : IsSound program) (one_list : Rattle.jv_code.specs.Places.OneList)
    (next_starts : Rattle.jv_code.specs.Places.NextStarts)
    (stands_in_list : Rattle.jv_code.specs.Places.StandsInList)
    (parameters_are_sorts : (d : Declared) (descriptor : MethodDescriptor) → IsEnterable program d
    → method_type_of d.method.descriptor ≡ Some descriptor → AreSorts descriptor.parameters)
    (slots_are_words : (descriptor : MethodDescriptor) → AreSorts descriptor.parameters
    → words (map value_type descriptor.parameters) ≡ slots descriptor) where
  -- the entries, with the values that are passed
  record AreEntries (p : Place) (env : Environment) (receiver : Option ℕ) (arguments : List Value) : Type 0 where
    items : Zip (Item p) (entries_before env) (passed_values receiver arguments)
    count : words (entries_before env) ≡ argument_words env

  one_descriptor : (a b : MethodDescriptor) → Some a ≡ Some b → a ≡ b
  one_descriptor a b e = cc

  entries_ok :
      (heap : Heap) (p : Place) (env : Environment) (d : Declared) (receiver : Option ℕ) (arguments : List Value) → p.heap ≡ heap
      → p.method ≡ env → IsChecked program env → env.site ≡ d → is_init d.method.name ≡ false
      → IsReceiver program heap d receiver → ArePassed program heap d receiver arguments → AreEntries p env receiver arguments
  entries_ok heap p env d receiver arguments same_heap same_method checked site plain is_receiver passed =
      by_receiver receiver is_receiver
    where
      same_site : method_type_of d.method.descriptor ≡ Some env.descriptor
      same_site = subst (λ (s : Declared). method_type_of s.method.descriptor ≡ Some env.descriptor) site checked.is.descriptor

      same_descriptor : passed.descriptor ≡ env.descriptor
      same_descriptor = one_descriptor passed.descriptor env.descriptor (sym passed.described ∙ same_site)

      sorts : AreSorts env.descriptor.parameters
      sorts = parameters_are_sorts d env.descriptor (subst (IsEnterable program) site checked.enterable) same_site

      world : p.method.world ≡ program.world
      world = ap (λ (x : Environment). x.world) same_method ∙ checked.world

      fit : Zip (Fits p.method.world p.heap.objects) (map value_type env.descriptor.parameters) arguments
      fit =
          subst (λ (w : World). Zip (Fits w p.heap.objects) (map value_type env.descriptor.parameters) arguments) (sym world)
          (subst (λ (h : Heap). Zip (Fits program.world h.objects) (map value_type env.descriptor.parameters) arguments) (sym same_heap)
          (subst (λ (x : MethodDescriptor). Zip (Fits program.world heap.objects)
          (map value_type x.parameters) arguments) same_descriptor passed.fit))

      items : Zip (Item p) (map value_type env.descriptor.parameters) arguments
      items = sorts_are_items p env.descriptor.parameters arguments sorts fit

      static_is : is_static env ≡ is_static_method d.method
      static_is = ap (λ (s : Declared). is_static_method s.method) site

      init_is : is_init env.site.method.name ≡ false
      init_is = ap (λ (s : Declared). is_init s.method.name) site ∙ plain

      name_is : env.site.by.class.name ≡ d.by.class.name
      name_is = ap (λ (s : Declared). s.by.class.name) site

      count : words (map value_type env.descriptor.parameters) ≡ slots env.descriptor
      count = slots_are_words env.descriptor sorts

      by_flags :
          (static init : Bool) (r : Option ℕ) → static ≡ is_static_method d.method → init ≡ false → IsReceiver program heap d r
          → Zip (Item p) (initial_entries env.site.by.class.name static init env.descriptor.parameters) (passed_values r arguments)
          × (words (initial_entries env.site.by.class.name static init env.descriptor.parameters) ≡ slots env.descriptor +
          (if static then 0 else 1))
      by_flags true false None e k h = (items, omega (arith, count))
      by_flags false false None e k h = absurd (clash (e ∙ h))
      by_flags true false (Some id) e k h = absurd (clash (sym h.0 ∙ sym e))
      by_flags false false (Some id) e k h = (
        (
          record {
            fits = subst (λ (w : World). IsObject w p.heap.objects (types.Class env.site.by.class.name) id) (sym world)
                (subst (λ (h : Heap). IsObject program.world h.objects (types.Class env.site.by.class.name) id) (sym same_heap)
                (subst (λ (n : List ℕ). IsObject program.world heap.objects (types.Class n) id) (sym name_is) h.1));
            width = refl;
          },
          items,
        ),
        omega (
          arith,
          count,
          sum_by-cons Rattle.jv_stackmap.specs.Types.width (types.Class env.site.by.class.name)
              (map value_type env.descriptor.parameters),
        ),
      )
      by_flags static true r e k h = absurd (clash (sym k))

      by_receiver : (r : Option ℕ) → IsReceiver program heap d r → AreEntries p env r arguments
      by_receiver r h = let both = by_flags (is_static env) (is_init env.site.method.name) r static_is init_is h in record
          { items = both.0; count = both.1 }

  pub method_frame_ok :
      (heap : Heap) (depth : ℕ) (d : Declared) (receiver : Option ℕ) (arguments : List Value) → IsEnterable program d
      → (is_init d.method.name ≡ false) → IsReceiver program heap d receiver
      → ArePassed program heap d receiver arguments → AreLoadable program.world heap.objects
      → Holds (λ f. IsRunning program heap depth f × (f.method.site ≡ d)
      × (f.receiver ≡ receiver)) (method_frame program d receiver arguments)
  method_frame_ok heap depth d receiver arguments e plain is_receiver passed loadable =
      then_holds (entered_ok program sound one_list d e) (λ env h.
      let frame_of : List Value → MethodFrame = λ locals. entered_frame env receiver locals [] in
      let p : Place = place_of heap depth (entered_frame env receiver [] []) (λ _. 0) in
      let entries = entries_ok heap p env d receiver arguments refl refl h.0 h.1 plain is_receiver passed in
      then_holds (filled_ok p env.code.max_locals (entries_before env) (passed_values receiver arguments) entries.items
      (subst (λ (n : ℕ). n ≤ env.code.max_locals) (sym entries.count) h.0.typing.arguments)) (λ locals k.
      let first = first_there env h.0.is in
      holds (
        arrives program sound.rooted next_starts stands_in_list heap depth (entered_frame env receiver locals []) (λ _. 0) h.0
            (first_frame env) 0 locals [] loadable
            (begins env h.0.maps h.0.frames h.0.is h.0.typing first.0 first.1)
            (record {
              locals = k;
              stack = tt;
              ready = λ c. absurd (clash
                  (sym (ap (λ (s : Declared). is_init s.method.name) h.1 ∙ plain) ∙ c));
            }),
        h.1,
        refl,
      )))
