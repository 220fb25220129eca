-- The types of methods' arguments, as they are kept in four bytes each.
use Rattle.std.specs.Prelude.{ℕ, zero, suc, ◌+◌, ◌-◌, ◌*◌, nat_lt, List, [], ◌∷◌, get_or, if◌then◌else◌}
use Rattle.jv_text.specs.declared.descriptor.Base.{Base}
use Rattle.jv_text.specs.declared.descriptor.Base.TheVariants as bases
use Rattle.jv_text.specs.declared.descriptor.Element.{Element}
use Rattle.jv_text.specs.declared.descriptor.Element.TheVariants as elements
use Rattle.jv_text.specs.declared.descriptor.FieldTypeOf.{FieldTypeOf}
use Rattle.jv_stackmap.specs.declared.verification.VerificationTypeOf.TheVariants as types
use Rattle.jv_verify_types.specs.Numbered.{Item}

-- ---- the type of a value of a field type, by number

abbrev pub primitive_item : Base → Item
primitive_item bases.Byte = types.Int
primitive_item bases.Char = types.Int
primitive_item bases.Int = types.Int
primitive_item bases.Short = types.Int
primitive_item bases.Boolean = types.Int
primitive_item bases.Long = types.Long
primitive_item bases.Float = types.Top
primitive_item bases.Double = types.Top

abbrev pub value_item_by : ℕ → Element ℕ → Item
value_item_by zero (elements.Base base) = primitive_item base
value_item_by zero (elements.Class number) = types.Class number
value_item_by (suc n) element = types.Array (record { dimensions = n; element = element })

abbrev pub value_item : FieldTypeOf ℕ → Item
value_item type = value_item_by type.dimensions type.element

-- ---- elements by number

abbrev pub bases_in_order : List Base
bases_in_order =
    bases.Byte ∷ bases.Char ∷ bases.Double ∷ bases.Float ∷ bases.Int ∷ bases.Long ∷ bases.Short ∷ bases.Boolean ∷ []

abbrev pub base_with : ℕ → Base
base_with number = get_or bases_in_order number bases.Boolean

-- the primitive types first, and behind them the classes
abbrev pub element_with : ℕ → Element ℕ
element_with number = if nat_lt number 8 then elements.Base (base_with number) else elements.Class (number - 8)

-- the argument that is kept so
abbrev pub argument_with : ℕ → ℕ → ℕ → Item
argument_with dimensions high low =
    value_item (record { dimensions = dimensions; element = element_with (high * 65536 + low) })
