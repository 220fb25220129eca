-- What the constants of a pool name (JVMS 4.4): by the rules of their kinds, a Class constant names a class or an array
-- type, a Fieldref a field, and so on.
use Rattle.std.specs.Prelude.{◌≡◌, ℕ, List, Some}
use Rattle.std.specs.List.{All}
use Rattle.jv_text.specs.Text.{IsText}
use Rattle.jv_pool.specs.Constants.{Entry, NameAndDescriptor, MemberReference, at_index, utf8_at, class_name_at, string_at, name_and_type_at, field_reference_at, method_reference_at, interface_method_reference_at}
use Rattle.jv_pool.specs.Rules.{NamesClass, IsUnqualified, IsDescriptor, NamesField, NamesMethod, NamesInterfaceMethod, KeepsRules}

-- the name and the descriptor of a member that a constant names
abbrev pub name_and_type_of : MemberReference → NameAndDescriptor
name_and_type_of member = record { name = member.name; descriptor = member.descriptor }

-- a member's class is a class or an array type, its name is unqualified (4.4.6), and its name and descriptor are those of
-- its kind (4.4.2)
pub record IsMember (NamesIt : NameAndDescriptor → Type 0) (member : MemberReference) : Type 0 where
  pub class : NamesClass member.class
  pub unqualified : IsUnqualified member.name
  pub named : NamesIt (name_and_type_of member)

-- what each kind of constant names
pub record NamesByKind (pool : List Entry) : Type 0 where
  pub utf8 : (index : ℕ) (text : List ℕ) → utf8_at pool index ≡ Some text → IsText text
  pub class : (index : ℕ) (name : List ℕ) → class_name_at pool index ≡ Some name → NamesClass name
  pub string : (index : ℕ) (text : List ℕ) → string_at pool index ≡ Some text → IsText text
  pub name : (index : ℕ) (member : NameAndDescriptor) → name_and_type_at pool index ≡ Some member → IsUnqualified member.name
  pub descriptor : (index : ℕ) (member : NameAndDescriptor) → name_and_type_at pool index ≡ Some member → IsDescriptor member.descriptor
  pub field : (index : ℕ) (member : MemberReference) → field_reference_at pool index ≡ Some member → IsMember NamesField member
  pub method : (index : ℕ) (member : MemberReference) → method_reference_at pool index ≡ Some member → IsMember NamesMethod member
  pub interface_method : (index : ℕ) (member : MemberReference) → interface_method_reference_at pool index ≡ Some member
      → IsMember NamesInterfaceMethod member

-- A law: constants that keep their rules name what their kinds say.
abbrev pub KindsName : Type 0
KindsName = (pool : List Entry) → All (KeepsRules pool) pool → NamesByKind pool

-- A law: what holds of all constants of a pool holds of the one at an index.
abbrev pub HoldsAtIndex : Type 0
HoldsAtIndex = (pool : List Entry) → All (KeepsRules pool) pool → (index : ℕ) (constant : Entry) → at_index pool index ≡ Some constant
    → KeepsRules pool constant
