-- Types of values by number, as the types that they stand for.
use Rattle.std.proofs.Common.{◌≡◌, ℕ, zero, suc, List, refl}
use Rattle.jv_text.specs.declared.descriptor.Base.{Base}
use Rattle.jv_text.specs.declared.descriptor.Base.TheVariants as bases
use Rattle.jv_text.specs.declared.descriptor.Element.{Element}
use Rattle.jv_text.specs.declared.descriptor.Element.TheVariants as elements
use Rattle.jv_text.specs.declared.descriptor.FieldTypeOf.{FieldTypeOf}
use Rattle.jv_stackmap.specs.Types.{primitive_type, value_type, value_type_by}
use Rattle.jv_verify_types.specs.Typed.{typed, typed_element, typed_field}
use Rattle.jv_verify_types.specs.Inside.Packed.{primitive_item, value_item, value_item_by}

typed_primitive : (names : List (List ℕ)) (base : Base) → typed names (primitive_item base) ≡ primitive_type base
typed_primitive names bases.Byte = refl
typed_primitive names bases.Char = refl
typed_primitive names bases.Int = refl
typed_primitive names bases.Short = refl
typed_primitive names bases.Boolean = refl
typed_primitive names bases.Long = refl
typed_primitive names bases.Float = refl
typed_primitive names bases.Double = refl

typed_by : (names : List (List ℕ)) (dimensions : ℕ) (element : Element ℕ) → typed names (value_item_by dimensions element) ≡ value_type_by dimensions (typed_element names element)
typed_by names zero (elements.Base base) = typed_primitive names base
typed_by names zero (elements.Class number) = refl
typed_by names (suc n) element = refl

pub typed_value : (names : List (List ℕ)) (type : FieldTypeOf ℕ) → typed names (value_item type) ≡ value_type (typed_field names type)
typed_value names type = typed_by names type.dimensions type.element
