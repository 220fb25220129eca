-- How wide the components of the innermost arrays are (JVMS 6.5, multianewarray).
use Rattle.std.specs.Prelude.{◌≡◌, ℕ, ◌-◌, ◌≤◌, false, List}
use Rattle.jv_text.specs.declared.descriptor.FieldTypeOf.{FieldTypeOf}
use Rattle.jv_text.specs.Descriptor.{field_slots, is_floating}
use Rattle.jv_stackmap.specs.Types.{value_type, width}
use Rattle.jv_meaning_world.specs.World.{World}
use Rattle.jv_interp_objects.specs.declared.types.NumberedType.{NumberedType}
use Rattle.jv_interp_objects.specs.Types.{IsOfType}

-- what a type is without so many of its dimensions
abbrev pub inner_type : FieldTypeOf (List ℕ) → ℕ → FieldTypeOf (List ℕ)
inner_type type dimensions = record { dimensions = type.dimensions - dimensions; element = type.element }

-- its values have so many words, and cost as many cells
pub record HasSlots (type : FieldTypeOf (List ℕ)) (slots : ℕ) : Type 0 where
  pub width_is : width (value_type type) ≡ slots
  pub cells_are : field_slots type ≡ slots

-- so it is where arrays of a type are made in so many of its dimensions
abbrev pub IsSlots : NumberedType → ℕ → ℕ → Type 0
IsSlots numbers dimensions slots =
    (world : World) (type : FieldTypeOf (List ℕ)) → IsOfType world type numbers → is_floating type ≡ false → dimensions ≤ type.dimensions
    → HasSlots (inner_type type dimensions) slots
