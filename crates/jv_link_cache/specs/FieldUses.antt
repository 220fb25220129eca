-- Fields as steps use them (JVMS 2.3, 2.4, 5.4.3.2): where their words stand, and what they hold.
use Rattle.std.specs.Prelude.{◌≡◌, ℕ, ◌==◌, List, Some, Result, Ok, Err, if◌then◌else◌}
use Rattle.jv_text.specs.declared.descriptor.Base.TheVariants as bases
use Rattle.jv_text.specs.declared.descriptor.Element.{Element}
use Rattle.jv_text.specs.declared.descriptor.Element.TheVariants as elements
use Rattle.jv_text.specs.declared.descriptor.FieldTypeOf.{FieldTypeOf}
use Rattle.jv_text.specs.Types.{field_type_of}
use Rattle.jv_meaning_world.specs.World.{World}
use Rattle.jv_meaning_world.specs.LookUps.{DeclaredField}
use Rattle.jv_lookups.specs.declared.place.Place.{Place}
use Rattle.jv_lookups.specs.Places.{field_at, IsFieldPlace}
use Rattle.jv_link.specs.declared.error.LinkError.{LinkError}
use Rattle.jv_link_cache.specs.declared.field_use.FieldKind.{FieldKind}
use Rattle.jv_link_cache.specs.declared.field_use.FieldKind.TheVariants as kinds
use Rattle.jv_link_cache.specs.declared.field_use.FieldUse.{FieldUse}
use Rattle.jv_link_cache.specs.Places.{IsWordOf}

-- ---- what a field holds: no class of the profile has one of a floating point type

abbrev pub kind_of_element : Element (List ℕ) → FieldKind
kind_of_element (elements.Base bases.Boolean) = kinds.Boolean
kind_of_element (elements.Base bases.Byte) = kinds.Byte
kind_of_element (elements.Base bases.Char) = kinds.Char
kind_of_element (elements.Base bases.Short) = kinds.Short
kind_of_element (elements.Base bases.Long) = kinds.Long
kind_of_element (elements.Base _) = kinds.Int
kind_of_element (elements.Class name) = kinds.Reference

abbrev pub kind_of : FieldTypeOf (List ℕ) → FieldKind
kind_of type = if type.dimensions == 0 then kind_of_element type.element else kinds.Reference

-- a field of this descriptor holds such
abbrev pub IsKind : List ℕ → FieldKind → Type 0
IsKind descriptor kind = (type : FieldTypeOf (List ℕ)) → field_type_of descriptor ≡ Some type → kind ≡ kind_of type

-- ---- a use

-- it is of the field at its place: with its flags, its first word, and what it holds
pub record IsFieldUse (world : World) (use_of : FieldUse) : Type 0 where
  pub place : IsFieldPlace world use_of.place
  pub flags : (d : DeclaredField) → field_at world use_of.place ≡ Some d → use_of.access_flags ≡ d.field.access_flags
  pub word : (d : DeclaredField) → field_at world use_of.place ≡ Some d → IsWordOf world d use_of.word
  pub kind : (d : DeclaredField) → field_at world use_of.place ≡ Some d → IsKind d.field.descriptor use_of.kind

-- the field that is used, or the error
abbrev pub used_place : Result FieldUse LinkError → Result Place LinkError
used_place (Ok use_of) = Ok use_of.place
used_place (Err error) = Err error
