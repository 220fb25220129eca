-- What is wanted of one local variable, and what is remembered of types that were allowed there: each flows to so many of the wants, the
-- first ones, or they have ended.
use Rattle.std.specs.Prelude.{◌≡◌, ◌≤◌, ◌<◌, ◌⊎◌, ◌↔◌, ℕ, Bool, true, ◌&&◌, ◌||◌, List, Option, Some, IsTrue, length, max, nat_le, nat_lt, slice_get, take}
use Rattle.std.specs.List.{All, list_all}
use Rattle.std.specs.BTreeMap.{is_at}
use Rattle.std.specs.Map.{lookup}
use Rattle.jv_verify_types.specs.Numbered.{Item}
use Rattle.jv_verify_types.specs.Typed.{TypeWorld}
use Rattle.jv_verify_wants.specs.declared.variable.Want.{Want}
use Rattle.jv_verify_wants.specs.declared.variable.Variable.{Variable}
use Rattle.jv_verify_wants.specs.Wanted.{Wants, Kept, flows_by, IsAmong}
use Rattle.jv_verify_wants.specs.Inside.Codes.{Code, code, compare, same_code}

-- a want has not ended; and it is one of a type
abbrev pub is_open : ℕ → Want → Bool
is_open offset want = nat_lt offset want.until

abbrev pub is_open_of : Item → ℕ → Want → Bool
is_open_of item offset want = is_open offset want && same_code (code want.item) (code item)

-- a want until a later offset, where that is later
abbrev pub raised : Want → ℕ → Want
raised want until = record want { until = max want.until until }

-- a type is wanted at an offset by the want at a place
pub record IsOpenAt (wants : List Want) (place : ℕ) (item : Item) (offset : ℕ) : Type 0 where
  pub want : Want
  pub there : slice_get wants place ≡ Some want
  pub same : want.item ≡ item
  pub until : offset < want.until

-- the same is wanted from an offset on; a type is wanted more, until another
abbrev pub KeepsWants : ℕ → (old new : List Want) → Type 0
KeepsWants offset old new = (item : Item) (q : ℕ) → offset ≤ q → IsAmong new item q ↔ IsAmong old item q

abbrev pub AddsToWants : ℕ → Item → ℕ → (old new : List Want) → Type 0
AddsToWants offset item until old new =
    (other : Item) (q : ℕ) → offset ≤ q → IsAmong new other q ↔ (IsAmong old other q ⊎ ((other ≡ item) × (q < until)))

-- a type flows to all that is wanted at an offset
abbrev pub FlowsToAll : TypeWorld → Item → List Want → ℕ → Type 0
FlowsToAll types item wants offset = (other : Item) → IsAmong wants other offset → IsTrue (flows_by types item other)

-- a want has ended, or a type flows to it
abbrev pub allows : TypeWorld → ℕ → Item → Want → Bool
allows types offset item want = nat_le want.until offset || flows_by types item want.item

-- so many wants, the first ones, allow a type
abbrev pub Allow : TypeWorld → ℕ → Item → List Want → ℕ → Type 0
Allow types offset item wants count = (count ≤ length wants) × (list_all (allows types offset item) (take count wants) ≡ true)

-- what is kept of a local variable
abbrev pub kept_of : Variable → Kept
kept_of v = record { wants = v.wants.items; last = v.last; last_allowed = v.last_allowed; allowed = v.allowed.entries }

-- how many wants a type is remembered to be allowed by
abbrev pub remembered : List (Code × ℕ) → Item → Option ℕ
remembered allowed item = lookup (is_at (compare (code item))) allowed

-- what is remembered of a local variable is so
pub record IsAllowed (types : TypeWorld) (offset : ℕ) (kept : Kept) : Type 0 where
  pub last : Allow types offset kept.last kept.wants kept.last_allowed
  pub others : (item : Item) (count : ℕ) → remembered kept.allowed item ≡ Some count → Allow types offset item kept.wants count

-- and of each
abbrev pub AreAllowed : TypeWorld → ℕ → Wants → Type 0
AreAllowed types offset wants = All (IsAllowed types offset) wants
