-- Types whose classes are numbers of names, and the types that they stand for (JVMS 4.10.1.2).
use Rattle.std.specs.Prelude.{◌≡◌, ℕ, List, map, Some, codes, get_or, slice_get}
use Rattle.jv_text.specs.declared.descriptor.Element.{Element}
use Rattle.jv_text.specs.declared.descriptor.Element.TheVariants as elements
use Rattle.jv_text.specs.declared.descriptor.FieldTypeOf.{FieldTypeOf}
use Rattle.jv_stackmap.specs.declared.verification.VerificationTypeOf.{VerificationTypeOf}
use Rattle.jv_stackmap.specs.declared.verification.VerificationTypeOf.TheVariants as types
use Rattle.jv_stackmap.specs.Types.{FrameType}
use Rattle.jv_meaning_world.specs.World.{World}

-- names, each with the number of those before it, and the world in which they may be those of classes
pub record TypeWorld : Type 0 where
  pub world : World
  pub names : List (List ℕ)

-- the name with a number; one that no name has stands for java/lang/Object, which is the first
abbrev pub name_at : List (List ℕ) → ℕ → List ℕ
name_at names number = get_or names number (codes "java/lang/Object")

abbrev pub typed_element : List (List ℕ) → Element ℕ → Element (List ℕ)
typed_element names (elements.Base base) = elements.Base base
typed_element names (elements.Class number) = elements.Class (name_at names number)

abbrev pub typed_field : List (List ℕ) → FieldTypeOf ℕ → FieldTypeOf (List ℕ)
typed_field names type = record { dimensions = type.dimensions; element = typed_element names type.element }

abbrev pub typed : List (List ℕ) → VerificationTypeOf ℕ → FrameType
typed names types.Top = types.Top
typed names types.Int = types.Int
typed names types.Long = types.Long
typed names types.Null = types.Null
typed names types.UninitializedThis = types.UninitializedThis
typed names (types.Class number) = types.Class (name_at names number)
typed names (types.Array components) = types.Array (typed_field names components)
typed names (types.Uninitialized offset) = types.Uninitialized offset

abbrev pub typed_all : List (List ℕ) → List (VerificationTypeOf ℕ) → List FrameType
typed_all names list = map (typed names) list

-- the names of one list go on in another, so numbers of the one are numbers of the other
pub record GoesOn (names longer : List (List ℕ)) : Type 0 where
  pub kept : (number : ℕ) (name : List ℕ) → slice_get names number ≡ Some name → slice_get longer number ≡ Some name
