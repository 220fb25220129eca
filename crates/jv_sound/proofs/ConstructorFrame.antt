-- The frame of an `<init>` that is entered (JVMS 4.10.1.6): its receiver is uninitializedThis, that of java/lang/Object's is constructed.
use Rattle.std.proofs.Common.{◌≡◌, ℕ, ◌+◌, ◌≤◌, Bool, true, false, not, ◌&&◌, List, [], ◌∷◌, map, Some, refl, sym, ap, subst, ◌∙◌, arith}
use Rattle.std.specs.Prelude.{IsTrue, slice_get, codes, if◌then◌else◌}
use Rattle.std.specs.List.{list_any}
use Rattle.std.specs.Str.{bytes_eq}
use Rattle.std.proofs.lemmas.List.Sums.{sum_by-cons}
use Rattle.jv_text.specs.Descriptor.{MethodDescriptor, slots}
use Rattle.jv_text.specs.Name.{is_init}
use Rattle.jv_text.specs.Types.{method_type_of}
use Rattle.jv_stackmap.specs.declared.verification.VerificationTypeOf.TheVariants as types
use Rattle.jv_stackmap.specs.Types.{value_type, words, width}
use Rattle.jv_stackmap.specs.Frames.{is_uninitialized_this}
use Rattle.jv_stackmap.specs.Initial.{initial_entries, receiver_type}
use Rattle.jv_code.specs.Places.{StandsInList, NextStarts, OneList}
use Rattle.jv_meaning_world.specs.World.{World}
use Rattle.jv_meaning_world.specs.Overriding.{Declared}
use Rattle.jv_meaning_typing.specs.Kind.{is_static_method}
use Rattle.jv_meaning_world.specs.Laws.Order.{IsBelow}
use Rattle.jv_meaning_typing.specs.Environment.{Environment, current_class}
use Rattle.jv_meaning_typing.specs.Named.{class_type, current_type}
use Rattle.jv_meaning_typing.specs.Typing.{is_static, argument_words, entries_before, first_frame}
use Rattle.jv_meaning_machine.specs.Values.{Value}
use Rattle.jv_meaning_machine.specs.Values.Value.{Reference}
use Rattle.jv_meaning_machine.specs.Objects.{Instance}
use Rattle.jv_meaning_machine.specs.Objects.Object.{InstanceOf}
use Rattle.jv_meaning_machine.specs.Entering.{passed_values, entered_frame, method_frame, entered_on}
use Rattle.jv_meaning_machine.specs.State.{Program}
use Rattle.jv_sound.specs.Values.{Zip, Fits, FitsIn, Heap, Place, Item, IsReady}
use Rattle.jv_sound.specs.Memory.{AreLoadable}
use Rattle.jv_sound.specs.Sound.{AreSorts, IsSound, IsEnterable, IsChecked}
use Rattle.jv_sound.specs.Frames.{Holds, IsRunning, place_of}
use Rattle.jv_sound.specs.Effects.{ArePassed}
use Rattle.jv_sound.proofs.Logic.{clash, holds, then_holds}
use Rattle.jv_sound.proofs.Heaps.{with_set, upd_same, get_set_same}
use Rattle.jv_sound.proofs.Leads.{begins}
use Rattle.jv_sound.proofs.Entering.{filled_ok, entered_ok}
use Rattle.jv_sound.proofs.FirstFrame.{first_there, sorts_are_items}
use Rattle.jv_sound.proofs.Frames.{arrives}

-- an object on which an `<init>` is entered, in the heap behind that
module _ (heap : Heap) (depth : ℕ) (id : ℕ) (i : Instance) (there : slice_get heap.objects id ≡ Some (InstanceOf i)) (d : Declared) where
  abbrev pub entered_heap : Heap
  entered_heap = with_set heap id (entered_on d i) depth

  -- in the frame of the `<init>`
  pub receiver_fits :
      (q : Place) → q.heap ≡ entered_heap → q.depth ≡ depth → q.receiver ≡ Some id → q.method.site ≡ d → IsTrue (is_init d.method.name)
      → IsBelow q.method.world (types.Class i.class) (current_type q.method)
      → FitsIn q (receiver_type (current_class q.method).name true) (Reference id)
  receiver_fits q same_heap same_depth receiver site init below = by_object
      (bytes_eq (current_class q.method).name (codes "java/lang/Object")) refl
    where
      name : d.by.class.name ≡ (current_class q.method).name
      name = ap (λ (x : Declared). x.by.class.name) (sym site)

      there_now : slice_get q.heap.objects id ≡ Some (entered_on d i)
      there_now = ap (λ (h : Heap). slice_get h.objects id) same_heap ∙ get_set_same heap.objects id (InstanceOf i) (entered_on d i) there

      is_object : bytes_eq d.by.class.name (codes "java/lang/Object") ≡ bytes_eq (current_class q.method).name (codes "java/lang/Object")
      is_object = ap (λ (n : List ℕ). bytes_eq n (codes "java/lang/Object")) name

      by_object : (b : Bool) → bytes_eq (current_class q.method).name (codes "java/lang/Object") ≡ b
          → FitsIn q (if true && not b then types.UninitializedThis else types.Class (current_class q.method).name) (Reference id)
      by_object true e = record { object = entered_on d i; there = there_now; constructed = is_object ∙ e; below = below }
      by_object false e = record {
        number = id;
        is = refl;
        receiver = receiver;
        instance = record i { entered = Some d.by.class.name; constructed = bytes_eq d.by.class.name (codes "java/lang/Object") };
        there = there_now;
        raw = is_object ∙ e;
        constructor = ap (λ (x : Declared). is_init x.method.name) site ∙ init;
        entered = ap Some name;
        below = below;
        owner = ap (λ (h : Heap). h.owner id) same_heap ∙ upd_same heap.owner id depth ∙ sym same_depth;
      }

module _ (program : Program) (sound : IsSound program) (one_list : OneList) (next_starts : NextStarts) (stands_in_list : StandsInList)
    (parameters_are_sorts : (d : Declared) (descriptor : MethodDescriptor) → IsEnterable program d
    → method_type_of d.method.descriptor ≡ Some descriptor → AreSorts descriptor.parameters)
    (slots_are_words : (descriptor : MethodDescriptor) → AreSorts descriptor.parameters
    → words (map value_type descriptor.parameters) ≡ slots descriptor)
    (constructors_are_not_static : (d : Declared) → IsEnterable program d → is_init d.method.name ≡ true
    → is_static_method d.method ≡ false) where
  module _ (heap : Heap) (depth : ℕ) (id : ℕ) (i : Instance) (there : slice_get heap.objects id ≡ Some (InstanceOf i)) (d : Declared)
      (e : IsEnterable program d) (init : IsTrue (is_init d.method.name))
      (arguments : List Value) (passed : ArePassed program (entered_heap heap depth id i there d) d (Some id) arguments)
      (below : IsBelow program.world (types.Class i.class) (class_type d.by.class.name)) where
    abbrev entered : Heap
    entered = entered_heap heap depth id i there d

    abbrev place : Environment → Place
    place env = place_of entered depth (entered_frame env (Some id) [] []) (λ _. 0)

    same_descriptor : (a b : MethodDescriptor) → Some a ≡ Some b → a ≡ b
    same_descriptor a b k = cc

    record AreEntries (env : Environment) : Type 0 where
      items : Zip (Item (place env)) (entries_before env) (passed_values (Some id) arguments)
      count : words (entries_before env) ≡ argument_words env
      ready : IsReady (place env) (first_frame env).flag_this_uninit

    entries_ok : (env : Environment) → IsChecked program env → env.site ≡ d → AreEntries env
    entries_ok env checked site = let all = by_flags (is_static env)
        (is_init env.site.method.name) static_is init_is in record { items = all.0; count = all.1; ready = all.2 }
      where
        described : method_type_of d.method.descriptor ≡ Some env.descriptor
        described = subst (λ (s : Declared). method_type_of s.method.descriptor ≡ Some env.descriptor) site checked.is.descriptor

        sorts : AreSorts env.descriptor.parameters
        sorts = parameters_are_sorts d env.descriptor e described

        items : Zip (Item (place env)) (map value_type env.descriptor.parameters) arguments
        items =
            sorts_are_items (place env) env.descriptor.parameters arguments sorts
            (subst (λ (w : World). Zip (Fits w entered.objects) (map value_type env.descriptor.parameters) arguments) (sym checked.world)
            (subst (λ (x : MethodDescriptor). Zip (Fits program.world entered.objects) (map value_type x.parameters) arguments)
            (same_descriptor passed.descriptor env.descriptor (sym passed.described ∙ described)) passed.fit))

        static_is : is_static env ≡ false
        static_is = ap (λ (s : Declared). is_static_method s.method) site ∙ constructors_are_not_static d e init

        init_is : is_init env.site.method.name ≡ true
        init_is = ap (λ (s : Declared). is_init s.method.name) site ∙ init

        fits : FitsIn (place env) (receiver_type (current_class env).name true) (Reference id)
        fits =
            receiver_fits heap depth id i there d (place env) refl refl refl site init
            (subst (λ (w : World). IsBelow w (types.Class i.class) (current_type env)) (sym checked.world)
            (subst (λ (n : List ℕ). IsBelow program.world (types.Class i.class) (class_type n))
            (ap (λ (s : Declared). s.by.class.name) (sym site)) below))

        narrow : (b : Bool) → width (if true && not b then types.UninitializedThis else types.Class (current_class env).name) ≡ 1
        narrow true = refl
        narrow false = refl

        item : (b : Bool) → FitsIn (place env) (if true && not b then types.UninitializedThis else types.Class (current_class env).name)
            (Reference id) → Item (place env) (if true && not b then types.UninitializedThis else types.Class (current_class env).name)
            (Reference id)
        item true f = record { fits = f; width = refl }
        item false f = record { fits = f; width = refl }

        ready : (b : Bool) → FitsIn (place env) (if true && not b then types.UninitializedThis else types.Class (current_class env).name)
            (Reference id)
            → IsReady (place env) (list_any is_uninitialized_this
            ((if true && not b then types.UninitializedThis else types.Class
            (current_class env).name) ∷ map value_type env.descriptor.parameters))
        ready true f = λ _. (id, refl, λ _. f)
        ready false f = λ _. (id, refl, λ k. absurd (clash (sym k)))

        count : words (map value_type env.descriptor.parameters) ≡ slots env.descriptor
        count = slots_are_words env.descriptor sorts

        by_flags :
            (static init : Bool) → static ≡ false → init ≡ true
            → Zip (Item (place env)) (initial_entries (current_class env).name static init env.descriptor.parameters)
            (passed_values (Some id) arguments)
            × (words (initial_entries (current_class env).name static init env.descriptor.parameters) ≡ slots env.descriptor +
            (if static then 0 else 1))
            × IsReady (place env) (list_any is_uninitialized_this
            (initial_entries (current_class env).name static init env.descriptor.parameters))
        by_flags true init k j = absurd (clash (sym k))
        by_flags false false k j = absurd (clash j)
        by_flags false true k j =
            let test = bytes_eq (current_class env).name (codes "java/lang/Object") in (
              (item test fits, items),
              omega (
                arith,
                count,
                narrow test,
                sum_by-cons width (if true && not test then types.UninitializedThis else types.Class
                    (current_class env).name) (map value_type env.descriptor.parameters),
              ),
              ready test fits,
            )

    pub constructor_frame_ok : AreLoadable program.world entered.objects
        → Holds (λ f. IsRunning program entered depth f × (f.method.site ≡ d)
        × (f.receiver ≡ Some id)) (method_frame program d (Some id) arguments)
    constructor_frame_ok loadable =
        then_holds (entered_ok program sound one_list d e) (λ env h.
        let entries = entries_ok env h.0 h.1 in
        then_holds (filled_ok (place env) env.code.max_locals (entries_before env) (passed_values (Some id) arguments) entries.items
        (subst (λ (n : ℕ). n ≤ env.code.max_locals) (sym entries.count) h.0.typing.arguments)) (λ locals k.
        let first = first_there env h.0.is in
        holds (
          arrives program sound.rooted next_starts stands_in_list entered depth (entered_frame env (Some id) locals []) (λ _. 0) h.0
              (first_frame env) 0 locals [] loadable
              (begins env h.0.maps h.0.frames h.0.is h.0.typing first.0 first.1)
              (record { locals = k; stack = tt; ready = entries.ready }),
          h.1,
          refl,
        )))
