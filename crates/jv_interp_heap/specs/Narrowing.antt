-- How a type narrows what is stored (JVMS 2.3.4, 6.5; own for fields).
use Rattle.std.specs.Prelude.{◌≡◌, ℕ, zero, true, List, [], ◌∷◌}
use Rattle.jv_text.specs.declared.descriptor.Base.{Base}
use Rattle.jv_text.specs.declared.descriptor.Base.TheVariants as bases
use Rattle.jv_text.specs.declared.descriptor.Element.{Element}
use Rattle.jv_text.specs.declared.descriptor.Element.TheVariants as elements
use Rattle.jv_text.specs.declared.descriptor.FieldTypeOf.{FieldTypeOf}
use Rattle.jv_stackmap.specs.Types.{value_type}
use Rattle.jv_meaning_machine.specs.Values.{Value, has_type, narrowed}
use Rattle.jv_interp_heap.specs.declared.narrowing.Narrowing.{Narrowing}
use Rattle.jv_interp_heap.specs.declared.narrowing.Narrowing.TheVariants.{Byte, Short, Char, Boolean, Whole}
use Rattle.jv_interp_heap.specs.ObjectsInBlocks.{IsIn}

abbrev pub narrowing_by : Base → Narrowing
narrowing_by bases.Byte = Byte
narrowing_by bases.Short = Short
narrowing_by bases.Char = Char
narrowing_by bases.Boolean = Boolean
narrowing_by _ = Whole

abbrev pub narrowing_at : ℕ → Element (List ℕ) → Narrowing
narrowing_at zero (elements.Base base) = narrowing_by base
narrowing_at _ _ = Whole

-- that of a field or a component of a type
abbrev pub narrowing_of : FieldTypeOf (List ℕ) → Narrowing
narrowing_of type = narrowing_at type.dimensions type.element

-- A word stands for a value of a type that narrows so, and this one for the value as it is stored.
abbrev pub Narrows : Narrowing → ℕ → ℕ → Type 0
Narrows how word result =
    (addresses : List ℕ) (type : FieldTypeOf (List ℕ)) (value : Value) → narrowing_of type ≡ how → has_type (value_type type) value ≡ true
    → IsIn addresses value (word ∷ []) → IsIn addresses (narrowed type value) (result ∷ [])
