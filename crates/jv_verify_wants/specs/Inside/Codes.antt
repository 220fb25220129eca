-- Types as numbers that are ordered.
use Rattle.std.specs.Prelude.{ℕ, Bool, ◌&&◌, nat_eq}
use Rattle.std.specs.declared.cmp.Ordering.{Ordering}
use Rattle.std.specs.Ordering.{nat_cmp, ordering_then}
use Rattle.jv_text.specs.declared.descriptor.Base.{Base}
use Rattle.jv_text.specs.declared.descriptor.Base.TheVariants as bases
use Rattle.jv_text.specs.declared.descriptor.Element.{Element}
use Rattle.jv_text.specs.declared.descriptor.Element.TheVariants as elements
use Rattle.jv_stackmap.specs.declared.verification.VerificationTypeOf.TheVariants as types
use Rattle.jv_verify_types.specs.Numbered.{Item}

-- the kind of a type, how many dimensions it has, and the number of a name or an offset; 0 for what it doesn't have
abbrev pub Code : Type 0
Code = ℕ × ℕ × ℕ

abbrev pub base_code : Base → ℕ
base_code bases.Byte = 8
base_code bases.Char = 9
base_code bases.Double = 10
base_code bases.Float = 11
base_code bases.Int = 12
base_code bases.Long = 13
base_code bases.Short = 14
base_code bases.Boolean = 15

abbrev pub array_code : ℕ → Element ℕ → Code
array_code dimensions (elements.Class number) = (7, dimensions, number)
array_code dimensions (elements.Base base) = (base_code base, dimensions, 0)

abbrev pub code : Item → Code
code types.Top = (0, 0, 0)
code types.Int = (1, 0, 0)
code types.Long = (2, 0, 0)
code types.Null = (3, 0, 0)
code types.UninitializedThis = (4, 0, 0)
code (types.Class number) = (5, 0, number)
code (types.Uninitialized offset) = (6, 0, offset)
code (types.Array array) = array_code array.dimensions array.element

abbrev pub same_code : Code → Code → Bool
same_code one other = nat_eq one.0 other.0 && nat_eq one.1 other.1 && nat_eq one.2 other.2

-- the order of a map by such numbers
abbrev pub compare : Code → Code → Ordering
compare one other = ordering_then (ordering_then (nat_cmp one.0 other.0) (nat_cmp one.1 other.1)) (nat_cmp one.2 other.2)
