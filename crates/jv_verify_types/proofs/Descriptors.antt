-- What a text is the descriptor of, by what is known of it.
use Rattle.std.proofs.Common.{◌≡◌, ℕ, suc, Bool, true, false, cond, ◌&&◌, ◌==◌, List, [], ◌∷◌, length, drop, Option, Some, None, unwrap_or, refl, sym, ap, subst, inl, inr, sub-one}
use Rattle.std.specs.Prelude.{is_some}
use Rattle.std.specs.Option.{option_map, option_and_then}
use Rattle.std.proofs.lemmas.Bool.{eqb-true}
use Rattle.jv_format.specs.Format.{◌>>=◌}
use Rattle.jv_text.specs.declared.descriptor.Element.{Element}
use Rattle.jv_text.specs.declared.descriptor.FieldTypeOf.{FieldTypeOf}
use Rattle.jv_text.specs.Name.{is_array_name, is_class_name}
use Rattle.jv_text.specs.Descriptor.{is_field_type, MethodDescriptor, IsMethod}
use Rattle.jv_text.specs.Types.{brackets, element_at, with_dimensions, type_alone, field_type_of, method_type_of, TypesAgree}
use Rattle.jv_pool.specs.declared.facts.FieldFacts.{FieldFacts}
use Rattle.jv_pool.specs.declared.facts.MethodFacts.{MethodFacts}
use Rattle.jv_pool.specs.declared.facts.TextFacts.{TextFacts}
use Rattle.jv_pool.specs.Rules.{NamesClass}
use Rattle.jv_pool.specs.Facts.{IsFieldKnown, IsMethodKnown, AreFacts}
use Rattle.jv_stackmap.specs.declared.verification.VerificationTypeOf.TheVariants as types
use Rattle.jv_stackmap.specs.Types.{array_of, reference_type, value_type}
use Rattle.jv_meaning_typing.specs.Named.{named_type, class_components, when}

-- ---- descriptors of fields

pub no_field : TypesAgree → (text : List ℕ) (known : Option FieldFacts) → IsFieldKnown text known → is_some known ≡ false → field_type_of text ≡ None
no_field agree text (Some facts) here is = absurd cc
no_field agree text None here is = by_type (field_type_of text) refl
  where
    by_type : (o : Option (FieldTypeOf (List ℕ))) → field_type_of text ≡ o → o ≡ None
    by_type None e = refl
    by_type (Some type) e = absurd (here type ((agree.field text type).1 e))

-- ---- descriptors of methods

pub no_such_method : TypesAgree → (text : List ℕ) → ((method : MethodDescriptor) → IsMethod text method → ⊥) → method_type_of text ≡ None
no_such_method agree text none = by_type (method_type_of text) refl
  where
    by_type : (o : Option MethodDescriptor) → method_type_of text ≡ o → o ≡ None
    by_type None e = refl
    by_type (Some method) e = absurd (none method ((agree.method text method).1 e))

pub no_method : TypesAgree → (text : List ℕ) (known : Option MethodFacts) → IsMethodKnown text known → is_some known ≡ false → method_type_of text ≡ None
no_method agree text (Some facts) here is = absurd cc
no_method agree text None here is = no_such_method agree text here

-- ---- names of classes

pub class_name_known : (text : List ℕ) (facts : TextFacts) → AreFacts text facts → is_array_name text ≡ false → facts.names_class ≡ true → is_class_name text ≡ true
class_name_known text facts known array is = by_kind (known.names_class.0 is)
  where
    by_kind : NamesClass text → is_class_name text ≡ true
    by_kind (inl name) = name
    by_kind (inr described) = absurd (cc described.array)

pub named_class : (text : List ℕ) → is_array_name text ≡ false → is_class_name text ≡ true → named_type text ≡ Some (class_components text)
named_class text array class = rw (array, class) refl

-- ---- the type of an object of what is named

-- an array has a dimension
array_dimensions : (text : List ℕ) (type : FieldTypeOf (List ℕ)) → is_array_name text ≡ true → field_type_of text ≡ Some type → (n : ℕ) × (type.dimensions ≡ suc n)
array_dimensions [] type array e = absurd cc
array_dimensions (byte ∷ rest) type array e =
    by_element (element_at (drop (brackets rest) rest)) (subst (λ n. field_type_of (n ∷ rest) ≡ Some type) (eqb-true byte 91 array) e)
  where
    by_element : (found : Option (Element (List ℕ) × List ℕ))
        → option_and_then type_alone (option_map (with_dimensions (suc (brackets rest))) found) ≡ Some type → (n : ℕ) × (type.dimensions ≡ suc n)
    by_element None e = absurd cc
    by_element (Some found) e = (brackets rest, sym (ap (λ o. (unwrap_or o type).dimensions) (alone (length found.1 == 0 && is_field_type (with_dimensions (suc (brackets rest)) found).0) e)))
      where
        alone : (b : Bool) → cond b (Some (with_dimensions (suc (brackets rest)) found).0) None ≡ Some type → Some (with_dimensions (suc (brackets rest)) found).0 ≡ Some type
        alone true e = e
        alone false e = absurd cc

array_value : (type : FieldTypeOf (List ℕ)) (n : ℕ) → type.dimensions ≡ suc n → array_of type ≡ Some (value_type type)
array_value type n e = rw (e, sub-one) refl

pub reference_by_name : (text : List ℕ) → reference_type text ≡ option_map value_type (named_type text)
reference_by_name text = by_array (is_array_name text) refl
  where
    by_class : (b : Bool) → cond b (Some (types.Class text)) None ≡ option_map value_type (when b (class_components text))
    by_class true = refl
    by_class false = refl

    by_type : (o : Option (FieldTypeOf (List ℕ))) → is_array_name text ≡ true → field_type_of text ≡ o → (o >>= array_of) ≡ option_map value_type o
    by_type None array e = refl
    by_type (Some type) array e =
        let many = array_dimensions text type array e in array_value type many.0 many.1

    by_array : (b : Bool) → is_array_name text ≡ b → reference_type text ≡ option_map value_type (named_type text)
    by_array true array = rw array (by_type (field_type_of text) array refl)
    by_array false array = rw array (by_class (is_class_name text))
