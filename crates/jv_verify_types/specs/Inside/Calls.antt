-- Methods that are called, by number.
use Rattle.std.specs.Prelude.{ℕ, Bool, true, false, not, ◌||◌, List, [], ◌∷◌, Option, Some, None}
use Rattle.jv_text.specs.declared.descriptor.FieldTypeOf.{FieldTypeOf}
use Rattle.jv_stackmap.specs.declared.verification.VerificationTypeOf.TheVariants as types
use Rattle.jv_stackmap.specs.Types.{FrameType, value_type}
use Rattle.jv_verify_types.specs.Typed.{typed_field}
use Rattle.jv_verify_types.specs.Numbered.{Item}

abbrev pub is_array : Item → Bool
is_array (types.Array components) = true
is_array _ = false

abbrev pub can_be_of : Bool → Item → Bool
can_be_of of_class owner = of_class || not (is_array owner)

abbrev pub result_given : List (List ℕ) → Option (FieldTypeOf ℕ) → List FrameType
result_given names None = []
result_given names (Some type) = value_type (typed_field names type) ∷ []
