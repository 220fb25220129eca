-- Notes of where objects that are not initialized stand among types, by a number of each.
use Rattle.std.specs.Prelude.{◌≡◌, ◌⊎◌, ◌==◌, ◌+◌, ◌++◌, ◌∷◌, [], ℕ, Bool, true, false, List, length, get_or, slice_get, Option, Some, None, IsTrue, unwrap_or}
use Rattle.std.specs.List.{list_any}
use Rattle.std.specs.Option.{option_map}
use Rattle.jv_stackmap.specs.declared.verification.VerificationTypeOf.TheVariants as types
use Rattle.jv_stackmap.specs.Types.{FrameType}
use Rattle.jv_meaning_typing.specs.FrameChanges.{is_same_object}
use Rattle.jv_verify_frame.specs.declared.notes.Note.{Note}
use Rattle.jv_verify_types.specs.Numbered.{Item}
use Rattle.jv_verify_frame.specs.Inside.Swapped.{same_object}

-- notes, one behind the other; by each number of an object, how many there were when its last had joined, or 0; and whether they are
-- kept: where they are not, they say nothing
pub record Noted : Type 0 where
  pub kept : Bool
  pub notes : List Note
  pub ends : List ℕ

-- the number of an object: of `this`, or of what the `new` at an offset made
abbrev pub key_of : Item → Option ℕ
key_of types.UninitializedThis = Some 0
key_of (types.Uninitialized offset) = Some (offset + 1)
key_of _ = None

-- a copy of an object stands at a place
abbrev pub is_same_in : Item → Option Item → Bool
is_same_in object None = false
is_same_in object (Some item) = same_object object item

abbrev pub has_at : Item → List Item → ℕ → Bool
has_at object items k = is_same_in object (slice_get items k)

abbrev pub is_among : List ℕ → ℕ → Bool
is_among places k = list_any (λ place. place == k) places

-- the same by names
abbrev pub is_in_local : FrameType → List FrameType → ℕ → Bool
is_in_local object locals k = unwrap_or (option_map (is_same_object object) (slice_get locals k)) false

-- each place of an object is among these
abbrev pub Holds : List ℕ → Item → List Item → Type 0
Holds places object items = (k : ℕ) → has_at object items k ≡ true → is_among places k ≡ true

-- a way from the last of so many notes down, from each to the one before it, on which one is of a place
abbrev pub IsWay : List Note → ℕ → List Note → ℕ → Type 0
IsWay notes at [] end = ⊥
IsWay notes at (n ∷ way) end = (j : ℕ) × (end ≡ j + 1) × (slice_get notes j ≡ Some n) × ((n.place ≡ at) ⊎ IsWay notes at way n.before)

abbrev pub InChain : List Note → ℕ → ℕ → Type 0
InChain notes at end = (way : List Note) × IsWay notes at way end

-- the last note of an object's number
abbrev pub end_of : Noted → ℕ → ℕ
end_of noted key = get_or noted.ends key 0

-- where notes are kept, each object is noted that stands at a place for which a test holds
abbrev pub AreNotedWhere : (ℕ → Type 0) → Noted → List Item → Type 0
AreNotedWhere at noted items =
    IsTrue noted.kept → (k : ℕ) (object : Item) (key : ℕ) → key_of object ≡ Some key → at k → has_at object items k ≡ true
    → InChain noted.notes k (end_of noted key)

abbrev pub AreNoted : Noted → List Item → Type 0
AreNoted noted items =
    IsTrue noted.kept → (k : ℕ) (object : Item) (key : ℕ) → key_of object ≡ Some key → has_at object items k ≡ true
    → InChain noted.notes k (end_of noted key)

-- a note has joined
pub record Joins (at of : ℕ) (old new : Noted) : Type 0 where
  pub note : Note
  pub kept : new.kept ≡ old.kept
  pub joined : new.notes ≡ old.notes ++ note ∷ []
  pub at_place : note.place ≡ at
  pub before : note.before ≡ end_of old of
  pub last : end_of new of ≡ length old.notes + 1
  pub others : (key : ℕ) → (key ≡ of → ⊥) → end_of new key ≡ end_of old key

-- a type that stands at a place was noted, and what was noted still is, where notes are kept still
pub record Adds (at : ℕ) (item : Item) (old new : Noted) : Type 0 where
  pub kept : IsTrue new.kept → IsTrue old.kept
  pub still : IsTrue new.kept → (k key : ℕ) → InChain old.notes k (end_of old key) → InChain new.notes k (end_of new key)
  pub added : IsTrue new.kept → (object : Item) (key : ℕ) → key_of object ≡ Some key → same_object object item ≡ true
      → InChain new.notes at (end_of new key)

-- no note of an object is any more, and the others are as they were
pub record LeavesOut (object : Item) (old new : Noted) : Type 0 where
  pub kept : new.kept ≡ old.kept
  pub notes : new.notes ≡ old.notes
  pub others : (key : ℕ) → (key_of object ≡ Some key → ⊥) → end_of new key ≡ end_of old key

-- objects stand where they stood, but for an item that came to a place
abbrev pub KeepsObjects : ℕ → Item → List Item → List Item → Type 0
KeepsObjects at item old new =
    (k : ℕ) (object : Item) → has_at object new k ≡ true → (has_at object old k ≡ true) ⊎ ((k ≡ at) × (same_object object item ≡ true))

-- each object stood there before
abbrev pub BringsNone : List Item → List Item → Type 0
BringsNone old new = (k : ℕ) (object : Item) → has_at object new k ≡ true → has_at object old k ≡ true

-- what is no object that is not initialized
abbrev pub IsPlain : Item → Type 0
IsPlain item = (object : Item) → same_object object item ≡ false
