-- Loads from arrays (JVMS 6.5: iaload and its kin, aaload).
use Rattle.std.proofs.Common.{◌≡◌, ℕ, ℤ, Bool, true, false, List, [], ◌∷◌, Option, Some, None, refl, sym, ap, subst, ◌∙◌}
use Rattle.std.specs.Prelude.{IsTrue, slice_get, pos, negsuc}
use Rattle.std.specs.Option.{option_map}
use Rattle.jv_text.specs.declared.descriptor.FieldTypeOf.{FieldTypeOf}
use Rattle.jv_stackmap.specs.declared.verification.VerificationTypeOf.TheVariants as types
use Rattle.jv_stackmap.specs.Types.{FrameType, value_type}
use Rattle.jv_code.specs.declared.insn.Insn.TheVariants as insns
use Rattle.jv_code.specs.declared.kinds.NumberElement.{NumberElement}
use Rattle.jv_code.specs.declared.kinds.NumberElement.TheVariants as numbers
use Rattle.jv_code.specs.Insns.{Instruction}
use Rattle.jv_code.specs.Successors.{falls_through}
use Rattle.jv_meaning_typing.specs.FrameChanges.{is_reference, with_stack, taken_as_all, taken_as_any}
use Rattle.jv_meaning_typing.specs.Named.{when}
use Rattle.jv_meaning_typing.specs.NumberRules.{number_arrays, element_number}
use Rattle.jv_meaning_typing.specs.ValueRules.{with_component}
use Rattle.jv_meaning_machine.specs.Faults.{found, ◌>>=◌}
use Rattle.jv_meaning_machine.specs.Faults.Fault.{ReferenceFault}
use Rattle.jv_meaning_machine.specs.Values.{Value}
use Rattle.jv_meaning_machine.specs.Values.Value.{Null, Reference}
use Rattle.jv_meaning_machine.specs.Objects.{Object}
use Rattle.jv_meaning_machine.specs.Objects.Object.{ArrayWith}
use Rattle.jv_meaning_machine.specs.Arrays.{Components, array_in, at_place, holds_numbers, holds_references, load_at, load_from}
use Rattle.jv_meaning_machine.specs.Operands.{taken_reference}
use Rattle.jv_meaning_machine.specs.Effects.{null_pointer, array_index}
use Rattle.jv_sound.specs.Values.{Fits, IsReferenceTo, HasStack}
use Rattle.jv_sound.specs.Sound.{IsSort}
use Rattle.jv_sound.specs.Frames.{Holds}
use Rattle.jv_sound.proofs.Logic.{then2, then1, holds, then_holds, found_holds, tested_holds, handed_on, handed_over}
use Rattle.jv_sound.proofs.Types.{sort_item}
use Rattle.jv_sound.proofs.Taking.{taken_one}
use Rattle.jv_sound.proofs.Pure.{agrees_from, int_ok}
use Rattle.jv_sound.proofs.ArrayTypes.{got, IsArray, IsNumbers, IsReferences, array_value, array_weaker, array_taken, numbers_taken, reference_components, fits_below, value_usable}
use Rattle.jv_sound.proofs.Types.{usable_sort}
use Rattle.jv_sound.proofs.Ways.{Setting, IsSet, world_of, context_of, here, Does, By, Sound, KeepsLocals, goes_ok, raises_ok}

pub number_sort : (kind : NumberElement) → IsSort (element_number kind)
number_sort numbers.Long = tt
number_sort numbers.Int = tt
number_sort numbers.ByteOrBoolean = tt
number_sort numbers.Char = tt
number_sort numbers.Short = tt

-- the array with a number is there
pub array_at : (objects : List Object) (id : ℕ) (components : FieldTypeOf (List ℕ)) (values : List Value)
    → slice_get objects id ≡ Some (ArrayWith components values)
    → Holds (λ (array : Components). array ≡ (components, values)) (found ReferenceFault (slice_get objects id) >>= array_in)
array_at objects id components values e =
    then_holds (found_holds {P = λ o. o ≡ ArrayWith components values} ReferenceFault (slice_get objects id)
    (ArrayWith components values) e refl) (λ o same_object.
    subst (λ (o : Object). Holds (λ (array : Components). array ≡ (components, values)) (array_in o)) (sym same_object) (holds refl))

module _ (x : Setting) (h : IsSet x) where
  loads :
      (insn : Instruction) (test : FieldTypeOf (List ℕ) → Bool) (P : FieldTypeOf (List ℕ)
      → Type 0) (type : FrameType) (index : ℤ) (S : List FrameType) (s : List Value) (v : Value)
      → IsTrue (falls_through insn) → KeepsLocals x insn → IsSort type → ((c : FieldTypeOf (List ℕ)) → P c → test c ≡ true)
      → ((c : FieldTypeOf (List ℕ)) (w : Value) → P c → Fits (world_of x) x.heap.objects (value_type c) w
      → Fits (world_of x) x.heap.objects type w) → IsArray x.heap.objects P v → HasStack (here x) S s
      → Does x insn (with_stack x.given (type ∷ S)) (load_from (context_of x insn) test index v s)
  loads insn test P type index S s Null falls keeps sort passes fits a hs = raises_ok x h insn
      (with_stack x.given (type ∷ S)) null_pointer refl keeps
  loads insn test P type index S s (Reference id) falls keeps sort passes fits a hs =
      then_holds (array_at x.heap.objects id a.0 a.1 a.2) (λ array same_array.
      then_holds (tested_holds {P = λ (b : Components). b ≡ (a.0, a.1)} ReferenceFault (test array.0) array
      (ap (λ (b : Components). test b.0) same_array ∙ passes a.0 a.3) same_array) (λ array same_again.
      subst (λ (b : Components). Does x insn (with_stack x.given (type ∷ S)) (load_at (context_of x insn) s (at_place index b.1)))
      (sym same_again) (by_place index)))
    where
      by_value : (o : Option Value) → ((w : Value) → o ≡ Some w → Fits (world_of x) x.heap.objects type w)
          → Does x insn (with_stack x.given (type ∷ S)) (load_at (context_of x insn) s o)
      by_value None k = raises_ok x h insn (with_stack x.given (type ∷ S)) array_index refl keeps
      by_value (Some w) k = goes_ok x h insn (type ∷ S) (w ∷ s) falls (sort_item (here x) type w sort (k w refl), hs)

      by_place : (i : ℤ) → Does x insn (with_stack x.given (type ∷ S)) (load_at (context_of x insn) s (at_place i a.1))
      by_place (pos n) = by_value (slice_get a.1 n) (λ w e. fits a.0 w a.3
          (got (Fits (world_of x) x.heap.objects (value_type a.0)) a.1 n w (h.typed.objects.each id (ArrayWith a.0 a.1) a.2).fit e))
      by_place (negsuc n) = by_value None (λ w e. absurd cc)
  loads insn test P type index S s _ falls keeps sort passes fits a hs = absurd a

  pub array_load_ok : (kind : NumberElement) → Sound x (insns.ArrayLoad kind)
  array_load_ok kind =
      handed_over (taken_as_all (world_of x) (types.Int ∷ []) x.given.stack) (taken_as_any (world_of x) (number_arrays kind))
      (λ below. Some (with_stack x.given (element_number kind ∷ below))) _
      (then2 (taken_one (here x) h.rooted h.loadable types.Int x.given.stack x.frame.stack tt h.holding.stack) (λ S top f.
      then1 (int_ok top.0 f.0) (λ index _.
      then2 (numbers_taken (here x) h.rooted h.loadable kind S top.1 f.1) (λ T under g.
      agrees_from (loads (insns.ArrayLoad kind) (holds_numbers kind) (IsNumbers kind)
      (element_number kind) index T under.1 under.0 refl refl (number_sort kind) (λ c k. k.0)
      (λ c w k fit. subst (λ (t : FrameType). Fits (world_of x) x.heap.objects t w) k.1 fit) g.0 g.1)))))

  pub reference_array_load_ok : Sound x insns.ReferenceArrayLoad
  reference_array_load_ok =
      handed_on (taken_as_all (world_of x) (types.Int ∷ []) x.given.stack) (with_component x.given) _
      (then2 (taken_one (here x) h.rooted h.loadable types.Int x.given.stack x.frame.stack tt h.holding.stack) (λ S top f.
      then1 (int_ok top.0 f.0) (λ index _. by_stack index S top.1 f.1)))
    where
      null_loads : (index : ℤ) (S : List FrameType) (s : List Value)
          → Does x insns.ReferenceArrayLoad (with_stack x.given (types.Null ∷ S))
          (load_from (context_of x insns.ReferenceArrayLoad) holds_references index Null s)
      null_loads index S s = raises_ok x h insns.ReferenceArrayLoad _ null_pointer refl refl

      by_array : (index : ℤ) (c : FieldTypeOf (List ℕ)) (S : List FrameType) (v : Value) (s : List Value)
          → IsReferenceTo (world_of x) x.heap.objects (types.Array c) v → HasStack (here x) S s → (b : Bool)
          → is_reference (value_type c) ≡ b
          → By x insns.ReferenceArrayLoad (option_map (λ type. with_stack x.given (type ∷ S)) (when b (value_type c)))
          (taken_reference x.heap.objects (v ∷ s) >>= λ under. load_from
          (context_of x insns.ReferenceArrayLoad) holds_references index under.0 under.1)
      by_array index c S v s f hs false e = record { by = tt }
      by_array index c S v s f hs true e =
          let known = array_weaker x.heap.objects _ (IsReferences (world_of x) c) v
          (λ d below. reference_components (world_of x) c d e below) (array_value (world_of x) x.heap.objects c v f) in
          then2 {f = λ below. Some (with_stack x.given (value_type c ∷ below))}
          (array_taken (here x) h.rooted h.loadable (IsReferences (world_of x) c) c S v s f known hs) (λ T under g.
          agrees_from (loads insns.ReferenceArrayLoad holds_references (IsReferences (world_of x) c)
          (value_type c) index T under.1 under.0 refl refl (usable_sort (value_type c) (value_usable c.dimensions c.element e)) (λ d k. k.0)
          (λ d w k fit. fits_below (world_of x) h.rooted x.heap.objects (value_type d) (value_type c) w
          (value_usable c.dimensions c.element e) k.1 fit) g.0 g.1))

      by_stack : (index : ℤ) (S : List FrameType) (s : List Value) → HasStack (here x) S s
          → By x insns.ReferenceArrayLoad (with_component x.given S)
          (taken_reference x.heap.objects s >>= λ under. load_from
          (context_of x insns.ReferenceArrayLoad) holds_references index under.0 under.1)
      by_stack index [] [] hs = record { by = tt }
      by_stack index (types.Null ∷ S) (Null ∷ s) hs = agrees_from (null_loads index S s)
      by_stack index (types.Null ∷ S) (v ∷ s) hs = absurd (let k : v ≡ Null = hs.0.fits in cc)
      by_stack index (types.Array c ∷ S) (v ∷ s) hs = by_array index c S v s hs.0.fits hs.1 (is_reference (value_type c)) refl
      by_stack index (_ ∷ S) (v ∷ s) hs = record { by = tt }
      by_stack index _ _ hs = absurd hs
