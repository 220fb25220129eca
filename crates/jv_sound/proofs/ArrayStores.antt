-- Stores into arrays (JVMS 6.5: iastore and its kin, aastore).
use Rattle.std.proofs.Common.{◌≡◌, ℕ, suc, ℤ, Bool, true, false, List, [], ◌∷◌, Option, Some, None, Ok, refl, sym, ap, subst, ◌∙◌, arith}
use Rattle.std.specs.Prelude.{IsTrue, slice_get, slice_set, codes}
use Rattle.jv_text.specs.declared.descriptor.FieldTypeOf.{FieldTypeOf}
use Rattle.jv_stackmap.specs.declared.verification.VerificationTypeOf.TheVariants as types
use Rattle.jv_stackmap.specs.Types.{FrameType, value_type}
use Rattle.jv_code.specs.declared.insn.Insn.TheVariants as insns
use Rattle.jv_code.specs.declared.kinds.NumberElement.{NumberElement}
use Rattle.jv_code.specs.Insns.{Instruction}
use Rattle.jv_code.specs.Successors.{falls_through}
use Rattle.jv_meaning_world.specs.Laws.Order.{is_usable_reference}
use Rattle.jv_meaning_typing.specs.FrameChanges.{with_stack, taken_as_all, taken_as_any}
use Rattle.jv_meaning_typing.specs.Named.{array_with, class_components, object_class_type}
use Rattle.jv_meaning_typing.specs.NumberRules.{number_arrays, element_number}
use Rattle.jv_meaning_machine.specs.Faults.Fault.{ReferenceFault}
use Rattle.jv_meaning_machine.specs.Values.{Value, narrowed}
use Rattle.jv_meaning_machine.specs.Values.Value.{Null, Reference}
use Rattle.jv_meaning_machine.specs.Objects.{Object, is_instance_of}
use Rattle.jv_meaning_machine.specs.Objects.Object.{ArrayWith}
use Rattle.jv_meaning_machine.specs.Arrays.{Components, at_place, place_for, holds_numbers, holds_references, with_component_stored, store_at, store_number, can_stand, store_reference_if, store_reference_at, store_reference}
use Rattle.jv_meaning_machine.specs.Effects.{null_pointer, array_index, array_store, goes_on_with}
use Rattle.jv_meaning_machine.specs.Instructions.{store_in_array}
use Rattle.jv_sound.specs.Values.{Fits, Heap, IsReferenceTo, HasStack}
use Rattle.jv_sound.specs.Memory.{IsTypedObject}
use Rattle.jv_sound.specs.Later.{IsLater}
use Rattle.jv_sound.specs.Frames.{Holds}
use Rattle.jv_sound.proofs.Logic.{then2, then1, holds, then_holds, found_holds, tested_holds, handed_further}
use Rattle.jv_sound.proofs.Heaps.{with_set, set_later, weaker, stack_later, fits_later, values_later}
use Rattle.jv_sound.proofs.Subtypes.{instance_below, element_loadable}
use Rattle.jv_sound.proofs.Taking.{taken_one}
use Rattle.jv_sound.proofs.Pure.{agrees_from, int_ok}
use Rattle.jv_sound.proofs.Storing.{set_typed}
use Rattle.jv_sound.proofs.Storing.{narrowed_fits}
use Rattle.jv_sound.proofs.ArrayTypes.{all_set, IsArray, IsNumbers, IsReferences, array_value, array_weaker, numbers_taken, reference_components, value_usable, null_of_usable, object_of_usable}
use Rattle.jv_sound.proofs.ArrayLoads.{array_at, number_sort}
use Rattle.jv_sound.proofs.Ways.{Setting, IsSet, world_of, program_of, memory_of, context_of, here, Does, Sound, goes_with_ok, raises_ok, by_table}

module _ (x : Setting) (h : IsSet x) where
  abbrev stored_array : FieldTypeOf (List ℕ) → List Value → ℕ → Value → Object
  stored_array components values place v = ArrayWith components (slice_set values place (narrowed components v))

  abbrev after_store : ℕ → Object → Heap
  after_store id q = with_set x.heap id q (x.heap.owner id)

  -- a component of an array is another value of its type
  stored_ok :
      (insn : Instruction) (S : List FrameType) (s : List Value) (id : ℕ) (components : FieldTypeOf (List ℕ)) (values : List Value)
      (place : ℕ) (v : Value)
      → IsTrue (falls_through insn) → slice_get x.heap.objects id ≡ Some (ArrayWith components values)
      → Fits (world_of x) x.heap.objects (value_type components) v → HasStack (here x) S s
      → Does x insn (with_stack x.given S) (goes_on_with (context_of x insn)
      (with_component_stored id (components, values) place v (memory_of x)) s)
  stored_ok insn S s id components values place v falls there f hs =
      goes_with_ok x h insn S s (after_store id (stored_array components values place v))
      (with_component_stored id (components, values) place v (memory_of x)) falls grows refl
      (set_typed (program_of x) x.heap (after_store id (stored_array components values place v)) (memory_of x) id
      (stored_array components values place v) refl refl h.typed (weaker (omega arith) grows) new)
      (stack_later (here x) (after_store id (stored_array components values place v)) grows S s hs)
    where
      grows : IsLater (suc x.depth) x.heap (after_store id (stored_array components values place v))
      grows = set_later (suc x.depth) x.heap id (ArrayWith components values) (stored_array components values place v)
          (x.heap.owner id) there refl (λ e. e) (λ l. (refl, refl, refl))

      new : IsTypedObject (program_of x) (after_store id (stored_array components values place v)).objects
          (stored_array components values place v)
      new =
          let t = h.typed.objects.each id (ArrayWith components values) there in
          record {
            loadable = t.loadable;
            fit = all_set (Fits (world_of x) (after_store id (stored_array components values place v)).objects
                (value_type components)) values place (narrowed components v)
                (values_later (world_of x) grows (value_type components) values t.fit)
                (fits_later (world_of x) grows (value_type components) (narrowed components v)
                (narrowed_fits (world_of x) x.heap.objects components v f));
          }

  pub array_store_ok : (kind : NumberElement) → Sound x (insns.ArrayStore kind)
  array_store_ok kind =
      handed_further (taken_as_all (world_of x) (element_number kind ∷ []) x.given.stack)
      (λ below. taken_as_all (world_of x) (types.Int ∷ []) below) (taken_as_any (world_of x) (number_arrays kind))
      (λ below. Some (with_stack x.given below)) _
      (then2 (taken_one (here x) h.rooted h.loadable (element_number kind) x.given.stack x.frame.stack (number_sort kind) h.holding.stack)
      (λ S top f.
      then2 (taken_one (here x) h.rooted h.loadable types.Int S top.1 tt f.1) (λ T second g.
      then1 (int_ok second.0 g.0) (λ index _.
      then2 (numbers_taken (here x) h.rooted h.loadable kind T second.1 g.1) (λ U under k.
      agrees_from (stores index U under.1 top.0 under.0 f.0 k.0 k.1))))))
    where
      by_place : (index : ℤ) (U : List FrameType) (s : List Value) (v : Value) (id : ℕ) (components : FieldTypeOf (List ℕ))
          (values : List Value) → slice_get x.heap.objects id ≡ Some (ArrayWith components values)
          → Fits (world_of x) x.heap.objects (value_type components) v → HasStack (here x) U s → (o : Option Value)
          → Does x (insns.ArrayStore kind) (with_stack x.given U)
          (store_at (context_of x (insns.ArrayStore kind)) id (components, values) index v s o)
      by_place index U s v id components values there f hs None = raises_ok x h (insns.ArrayStore kind)
          (with_stack x.given U) array_index refl refl
      by_place index U s v id components values there f hs (Some old) = stored_ok (insns.ArrayStore kind) U s id components values
          (place_for index) v refl there f hs

      stores : (index : ℤ) (U : List FrameType) (s : List Value) (v u : Value) → Fits (world_of x) x.heap.objects (element_number kind) v
          → IsArray x.heap.objects (IsNumbers kind) u → HasStack (here x) U s
          → Does x (insns.ArrayStore kind) (with_stack x.given U) (store_number (context_of x (insns.ArrayStore kind)) kind index v u s)
      stores index U s v Null f a hs = raises_ok x h (insns.ArrayStore kind) (with_stack x.given U) null_pointer refl refl
      stores index U s v (Reference id) f a hs =
          then_holds (array_at x.heap.objects id a.0 a.1 a.2) (λ array same_array.
          then_holds (tested_holds {P = λ (b : Components). b ≡ (a.0, a.1)} ReferenceFault (holds_numbers kind array.0) array
          (ap (λ (b : Components). holds_numbers kind b.0) same_array ∙ a.3.0) same_array) (λ array same_again.
          subst (λ (b : Components). Does x (insns.ArrayStore kind) (with_stack x.given U)
          (store_at (context_of x (insns.ArrayStore kind)) id b index v s (at_place index b.1))) (sym same_again)
          (by_place index U s v id a.0 a.1 a.2 (subst (λ (t : FrameType). Fits (world_of x) x.heap.objects t v) (sym a.3.1) f) hs
          (at_place index a.1))))
      stores index U s v _ f a hs = absurd a

  -- a reference that can stand in an array is of its components' type
  stands : (components : FieldTypeOf (List ℕ)) (v : Value) → is_usable_reference (value_type components) ≡ true
      → IsReferenceTo (world_of x) x.heap.objects object_class_type v
      → Holds (λ (b : Bool). b ≡ true → Fits (world_of x) x.heap.objects (value_type components) v)
      (can_stand (context_of x insns.ReferenceArrayStore) components v)
  stands components Null usable f = holds (λ e. null_of_usable (world_of x) x.heap.objects (value_type components) usable)
  stands components (Reference id) usable f =
      then_holds (found_holds {P = λ o. o ≡ f.object} ReferenceFault (slice_get x.heap.objects id) f.object f.there refl) (λ o same_object.
      subst (λ (o : Object). Holds (λ (b : Bool). b ≡ true → Fits (world_of x) x.heap.objects (value_type components) (Reference id))
      (Ok (is_instance_of (world_of x) o components))) (sym same_object)
      (holds (λ e. object_of_usable (world_of x) x.heap.objects (value_type components) id usable
      (record {
        object = f.object;
        there = f.there;
        constructed = f.constructed;
        below = instance_below
            (world_of x) h.rooted f.object components (element_loadable (world_of x) f.object (h.loadable id f.object f.there)) e;
      }))))
  stands components _ usable f = absurd f

  pub reference_array_store_ok : Sound x insns.ReferenceArrayStore
  reference_array_store_ok =
      by_table x h insns.ReferenceArrayStore (array_with (class_components
      (codes "java/lang/Object")) ∷ types.Int ∷ object_class_type ∷ []) [] (tt, (tt, (tt, tt)))
      (λ S values s f hs. by_values S values s f hs)
    where
      by_test : (index : ℤ) (S : List FrameType) (s : List Value) (v : Value) (id : ℕ) (components : FieldTypeOf (List ℕ))
          (values : List Value) → slice_get x.heap.objects id ≡ Some (ArrayWith components values) → HasStack (here x) S s
          → (b : Bool) → (b ≡ true → Fits (world_of x) x.heap.objects (value_type components) v)
          → Does x insns.ReferenceArrayStore (with_stack x.given S)
          (store_reference_if (context_of x insns.ReferenceArrayStore) id (components, values) index v s b)
      by_test index S s v id components values there hs false k = raises_ok x h insns.ReferenceArrayStore
          (with_stack x.given S) array_store refl refl
      by_test index S s v id components values there hs true k = stored_ok insns.ReferenceArrayStore S s id components values
          (place_for index) v refl there (k refl) hs

      by_place : (index : ℤ) (S : List FrameType) (s : List Value) (v : Value) (id : ℕ) (components : FieldTypeOf (List ℕ))
          (values : List Value) → slice_get x.heap.objects id ≡ Some (ArrayWith components values)
          → is_usable_reference (value_type components) ≡ true → IsReferenceTo (world_of x) x.heap.objects object_class_type v
          → HasStack (here x) S s → (o : Option Value)
          → Does x insns.ReferenceArrayStore (with_stack x.given S)
          (store_reference_at (context_of x insns.ReferenceArrayStore) id (components, values) index v s o)
      by_place index S s v id components values there usable f hs None = raises_ok x h insns.ReferenceArrayStore
          (with_stack x.given S) array_index refl refl
      by_place index S s v id components values there usable f hs (Some old) =
          then_holds (stands components v usable f) (λ b k. by_test index S s v id components values there hs b k)

      stores : (index : ℤ) (S : List FrameType) (s : List Value) (v u : Value)
          → IsReferenceTo (world_of x) x.heap.objects object_class_type v
          → IsArray x.heap.objects (IsReferences (world_of x) (class_components (codes "java/lang/Object"))) u → HasStack (here x) S s
          → Does x insns.ReferenceArrayStore (with_stack x.given S) (store_reference (context_of x insns.ReferenceArrayStore) u index v s)
      stores index S s v Null f a hs = raises_ok x h insns.ReferenceArrayStore (with_stack x.given S) null_pointer refl refl
      stores index S s v (Reference id) f a hs =
          then_holds (array_at x.heap.objects id a.0 a.1 a.2) (λ array same_array.
          then_holds (tested_holds {P = λ (b : Components). b ≡ (a.0, a.1)} ReferenceFault (holds_references array.0) array
          (ap (λ (b : Components). holds_references b.0) same_array ∙ a.3.0) same_array) (λ array same_again.
          subst (λ (b : Components). Does x insns.ReferenceArrayStore (with_stack x.given S)
          (store_reference_at (context_of x insns.ReferenceArrayStore) id b index v s (at_place index b.1))) (sym same_again)
          (by_place index S s v id a.0 a.1 a.2 (value_usable a.0.dimensions a.0.element a.3.0) f hs (at_place index a.1))))
      stores index S s v _ f a hs = absurd a

      by_values : (S : List FrameType) (values s : List Value) → Rattle.jv_sound.specs.Values.Zip
          (Fits (world_of x) x.heap.objects) (array_with (class_components
          (codes "java/lang/Object")) ∷ types.Int ∷ object_class_type ∷ []) values → HasStack (here x) S s
          → Does x insns.ReferenceArrayStore (with_stack x.given S) (store_in_array (context_of x insns.ReferenceArrayStore) values s)
      by_values S (a ∷ i ∷ v ∷ []) s f hs =
          then_holds (int_ok i f.1.0) (λ index _.
          stores index S s v a f.1.1.0
          (array_weaker x.heap.objects _ (IsReferences (world_of x) (class_components (codes "java/lang/Object"))) a
          (λ d below. reference_components (world_of x) (class_components (codes "java/lang/Object")) d refl below)
          (array_value (world_of x) x.heap.objects (class_components (codes "java/lang/Object")) a f.0)) hs)
      by_values S [] s f hs = absurd f
      by_values S (a ∷ []) s f hs = absurd f.1
      by_values S (a ∷ i ∷ []) s f hs = absurd f.1.1
      by_values S (a ∷ i ∷ v ∷ w ∷ more) s f hs = absurd f.1.1.1
