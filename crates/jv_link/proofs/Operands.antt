-- What indices and texts name.
use Rattle.std.proofs.Common.{◌≡◌, ℕ, zero, suc, List, [], Option, Some, None, codes, refl, sym, ap, ◌∙◌, subst}
use Rattle.std.specs.Prelude.{IsSome}
use Rattle.std.specs.Option.{option_map, option_or}
use Rattle.jv_pool.specs.Constants.{at_index, class_name_in, class_name_at, field_reference_in, field_reference_at, method_reference_in, interface_method_reference_in}
use Rattle.jv_text.specs.declared.descriptor.FieldTypeOf.{FieldTypeOf}
use Rattle.jv_text.specs.Descriptor.{IsField}
use Rattle.jv_text.specs.Types.{field_type_of, TypesAgree}
use Rattle.jv_meaning_typing.specs.Operands.{through}
use Rattle.jv_meaning_typing.specs.Operands.MethodConstant.{Methodref, InterfaceMethodref}
use Rattle.std.specs.Borrow.{Bor}
use Rattle.jv_text.specs.Seen.{seen_field_type}
use Rattle.jv_meaning_world.specs.World.{World, class_named}
use Rattle.jv_meaning_typing.specs.ClassResolution.{ResolvedClass, member_class}
use Rattle.jv_meaning_typing.specs.ClassResolution.ResolvedClass.{ArrayOf}
use Rattle.jv_link.specs.declared.target.ClassRef.{ClassRef}
use Rattle.jv_link.specs.declared.target.ClassRef.TheVariants as refs
use Rattle.jv_link.specs.Seen.{class_ref_at}
use Rattle.jv_link.specs.Inside.References.{method_operand_in}

no_entry : (n : ℕ) → at_index {T = List ℕ} [] n ≡ None
no_entry zero = refl
no_entry (suc zero) = refl
no_entry (suc (suc n)) = refl

-- no constants name nothing
pub no_field : (index : ℕ) → IsSome (field_reference_at [] index) → ⊥
no_field index h = absurd (unlike (subst (λ o. IsSome (field_reference_in [] o)) (no_entry index) h))
  where
    unlike : IsSome (field_reference_in [] None) → ⊥
    unlike g = cc

pub no_class : (index : ℕ) → IsSome (class_name_at [] index) → ⊥
no_class index h = absurd (unlike (subst (λ o. IsSome (class_name_in [] o)) (no_entry index) h))
  where
    unlike : IsSome (class_name_in [] None) → ⊥
    unlike g = cc

pub no_method : (index : ℕ) → IsSome (method_operand_in [] index) → ⊥
no_method index h =
    absurd (unlike (subst
    (λ o. IsSome (option_or (option_map (through Methodref) (method_reference_in [] o))
    (option_map (through InterfaceMethodref) (interface_method_reference_in [] o)))) (no_entry index) h))
  where
    unlike : IsSome (option_or (option_map (through Methodref) (method_reference_in [] None)) (option_map (through InterfaceMethodref) (interface_method_reference_in [] None))) → ⊥
    unlike g = cc

-- a text that describes no type
pub no_type : TypesAgree → (text : List ℕ) → ((t : FieldTypeOf (List ℕ)) → IsField text t → ⊥) → None ≡ field_type_of text
no_type agree text none = by_type (field_type_of text) refl
  where
    by_type : (o : Option (FieldTypeOf (List ℕ))) → field_type_of text ≡ o → None ≡ o
    by_type None e = refl
    by_type (Some t) e = absurd (none t ((agree.field text t).1 e))

-- an array stands for java/lang/Object
pub array_means : (world : World) (found : ClassRef) (t : FieldTypeOf (Bor (List ℕ))) (r : ResolvedClass) → found ≡ refs.Array t →
    class_ref_at world found ≡ Some r → class_named world (codes "java/lang/Object") ≡ member_class world r
array_means world found t r is e = ap (member_class world) (same (sym (ap (class_ref_at world) is) ∙ e))
  where
    same : Some (ArrayOf (seen_field_type t)) ≡ Some r → ArrayOf (seen_field_type t) ≡ r
    same e = cc
