-- getfield (JVMS 6.5).
use Rattle.std.proofs.Common.{◌≡◌, ℕ, Bool, true, false, not, List, ◌∷◌, Option, Some, refl, sym, ap, subst, ◌∙◌}
use Rattle.std.specs.Prelude.{slice_get}
use Rattle.std.specs.List.{Contains}
use Rattle.jv_text.specs.declared.descriptor.FieldTypeOf.{FieldTypeOf}
use Rattle.jv_text.specs.Types.{field_type_of}
use Rattle.jv_stackmap.specs.declared.verification.VerificationTypeOf.TheVariants as types
use Rattle.jv_stackmap.specs.Types.{FrameType, value_type}
use Rattle.jv_code.specs.declared.insn.Insn.TheVariants as insns
use Rattle.jv_code.specs.declared.kinds.FieldAccess.TheVariants as access
use Rattle.jv_code.specs.Insns.{Instruction}
use Rattle.jv_class.specs.Class.{Field, field_named}
use Rattle.jv_pool.specs.Constants.{MemberReference}
use Rattle.jv_meaning_world.specs.World.{Loaded, class_named}
use Rattle.jv_meaning_world.specs.Verdicts.{is_interface}
use Rattle.jv_meaning_world.specs.LookUps.{DeclaredField}
use Rattle.jv_meaning_typing.specs.Kind.{is_static_field}
use Rattle.jv_meaning_typing.specs.Operands.{field_operand}
use Rattle.jv_meaning_typing.specs.Uses.Use.{Getfield}
use Rattle.jv_meaning_world.specs.Laws.Order.{object_name}
use Rattle.jv_meaning_typing.specs.Environment.{current_class}
use Rattle.jv_meaning_typing.specs.FrameChanges.{with_stack}
use Rattle.jv_meaning_typing.specs.MemberRules.{field_guard}
use Rattle.jv_meaning_typing.specs.Named.{field_use, object_class_type}
use Rattle.jv_meaning_machine.specs.Faults.{found}
use Rattle.jv_meaning_machine.specs.Faults.Fault.{ReferenceFault}
use Rattle.jv_meaning_machine.specs.Values.{Value}
use Rattle.jv_meaning_machine.specs.Values.Value.{Null, Reference}
use Rattle.jv_meaning_machine.specs.Objects.{Instance, Object, key_of, value_at}
use Rattle.jv_meaning_machine.specs.Objects.Object.{InstanceOf}
use Rattle.jv_meaning_machine.specs.Effects.{null_pointer}
use Rattle.jv_meaning_machine.specs.Fields.{instance_in, get_field_of}
use Rattle.jv_sound.specs.Values.{Fits, FitsDescribed, IsReferenceTo, HasStack}
use Rattle.jv_sound.specs.Sound.{IsSort}
use Rattle.jv_sound.specs.Frames.{Holds}
use Rattle.jv_sound.proofs.Logic.{clash, then2, holds, then_holds, found_holds}
use Rattle.jv_sound.proofs.Types.{sort_item, sort_has_type}
use Rattle.jv_sound.proofs.Taking.{taken_ok}
use Rattle.jv_sound.proofs.Pure.{agrees_from}
use Rattle.jv_sound.proofs.FieldsFound.{IsFieldFound, field_found, object_field}
use Rattle.jv_sound.proofs.FieldUses.{field_ok}
use Rattle.jv_sound.proofs.Ways.{Setting, IsSet, world_of, program_of, context_of, here, Does, Sound, goes_ok, raises_ok}

pub instance_kind : (b : Bool) → not b ≡ true → b ≡ false
instance_kind true k = absurd (clash k)
instance_kind false k = refl

module _ (x : Setting) (h : IsSet x)
    (interfaces_are_static : (l : Loaded) → Contains (world_of x) l → is_interface l ≡ true → (name descriptor : List ℕ) (f : Field)
    → field_named l.class name descriptor ≡ Some f → is_static_field f ≡ true)
    (object_has_none : (l : Loaded) → class_named (world_of x) object_name ≡ Some l → (name descriptor : List ℕ) (f : Field)
    → field_named l.class name descriptor ≡ Some f → ⊥) (index : ℕ)
    (sorts : (reference : MemberReference) (type : FieldTypeOf (List ℕ))
    → field_operand (current_class x.frame.method) index ≡ Some reference → field_type_of reference.descriptor ≡ Some type
    → IsSort (value_type type)) where
  abbrev insn : Instruction
  insn = insns.Field access.GetField index

  -- behind the object: null, or the value
  on_value :
      (reference : MemberReference) (d : DeclaredField) (type : FieldTypeOf (List ℕ)) (S : List FrameType) (s : List Value) (v : Value)
      → IsFieldFound (program_of x) Getfield reference d → field_type_of reference.descriptor ≡ Some type → IsSort (value_type type)
      → IsReferenceTo (world_of x) x.heap.objects (types.Class reference.class) v → HasStack (here x) S s
      → Does x insn (with_stack x.given (value_type type ∷ S)) (get_field_of (context_of x insn) d v s)
  on_value reference d type S s Null found described sort f hs = raises_ok x h insn
      (with_stack x.given (value_type type ∷ S)) null_pointer refl refl
  on_value reference d type S s (Reference id) known described sort f hs =
      let has = object_field (program_of x) h.rooted interfaces_are_static object_has_none x.heap.objects Getfield reference d f.object
      (h.typed.objects.each id f.object f.there) known (instance_kind (is_static_field d.field) known.kind) f.below in
      let there : slice_get x.heap.objects id ≡ Some (InstanceOf has.0) = f.there ∙ ap Some has.1 in
      then_holds (then_holds (found_holds {P = λ o. o ≡ InstanceOf has.0} ReferenceFault (slice_get x.heap.objects id)
      (InstanceOf has.0) there refl) (λ o same_object. subst (λ (o : Object). Holds (λ i. i ≡ has.0) (instance_in o)) (sym same_object)
      (holds refl))) (λ i same_instance.
      then_holds (found_holds {P = λ v. v ≡ has.2.value} ReferenceFault (value_at (key_of d) i.fields) has.2.value
      (subst (λ (i : Instance). value_at (key_of d) i.fields ≡ Some has.2.value) (sym same_instance) has.2.held) refl) (λ v same_value.
      goes_ok x h insn (value_type type ∷ S) (v ∷ s) refl (
        sort_item (here x) (value_type type) v sort (subst (λ (y : Value). Fits (world_of x) x.heap.objects (value_type type) y)
            (sym same_value)
            (subst (λ (o : Option (FieldTypeOf (List ℕ))). FitsDescribed (world_of x) x.heap.objects o has.2.value)
            (ap field_type_of known.descriptor ∙ described) has.2.fits)),
        hs,
      )))
  on_value reference d type S s _ found described sort f hs = absurd f

  pub get_field_ok : Sound x insn
  get_field_ok =
      field_ok x h access.GetField index sorts (λ reference type d plain described sort e.
      then2 (taken_ok (here x) h.rooted h.loadable (types.Class reference.class) object_class_type
      (field_guard x.frame.method (field_use reference (types.Class reference.class) type)) x.given.stack x.frame.stack tt
      (λ v f. sort_has_type (world_of x) x.heap.objects (types.Class reference.class) v tt f) h.holding.stack) (λ S top f.
      agrees_from (on_value reference d type S top.1 top.0 (field_found
      (program_of x) h.rooted h.alone x.frame.method.site Getfield reference d plain e) described sort f.0 f.1)))
