-- What is read of a file, by the texts that its indices name.
use Rattle.std.specs.Prelude.{◌≡◌, ℕ, List, [], ◌∷◌, ◌++◌, Option, None, Some, get_or, slice_get}
use Rattle.std.specs.Option.{option_map, IsSomeAnd}
use Rattle.jv_pool.specs.declared.index.ClassIndex.{ClassIndex}
use Rattle.jv_pool.specs.Constants.{Entry, NameAndDescriptor, named_at, class_name_at, utf8_at}
use Rattle.jv_class_structure.specs.declared.member.Field.{Field}
use Rattle.jv_class_structure.specs.Parts.{MethodSeen}
use Rattle.jv_classes.specs.Inside.Seen.{MemberSeen, member_made}

abbrev pub member_with : ℕ → NameAndDescriptor → MemberSeen
member_with access_flags texts = member_made access_flags texts.name texts.descriptor

-- the member whose name and descriptor these indices name
abbrev pub member_seen_at : List Entry → ℕ → ℕ → ℕ → Option MemberSeen
member_seen_at pool access_flags name descriptor = option_map (member_with access_flags) (named_at pool name descriptor)

-- the member that is found joins others
abbrev pub Joins : Option MemberSeen → List MemberSeen → List MemberSeen → Type 0
Joins found old new = IsSomeAnd found (λ m. new ≡ old ++ m ∷ [])

-- where a place is known for the index of a text, that text stands there
abbrev pub ArePlaces : List Entry → List (Option ℕ) → List (List ℕ) → Type 0
ArePlaces pool places texts =
    (index place : ℕ) (text : List ℕ) → utf8_at pool index ≡ Some text → get_or places index None ≡ Some place
    → slice_get texts place ≡ Some text

-- what stands among these texts stands in the same place among those
abbrev pub Stay : List (List ℕ) → List (List ℕ) → Type 0
Stay old new = (place : ℕ) (text : List ℕ) → slice_get old place ≡ Some text → slice_get new place ≡ Some text

abbrev pub field_texts : List Entry → Field → Option NameAndDescriptor
field_texts pool f = named_at pool f.name.0 f.descriptor.0

abbrev pub field_at : List Entry → Field → Option MemberSeen
field_at pool f = option_map (member_with f.access_flags.0) (field_texts pool f)

abbrev pub method_at : List Entry → MethodSeen → Option MemberSeen
method_at pool m = member_seen_at pool m.access_flags m.name_index m.descriptor_index

abbrev pub interface_at : List Entry → ClassIndex → Option (List ℕ)
interface_at pool index = class_name_at pool index.0
