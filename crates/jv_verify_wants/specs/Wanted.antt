-- What handlers that cover an instruction want of local variables (JVMS 4.7.3, 4.10.1.6): types, each until an offset.
use Rattle.std.specs.Prelude.{◌≡◌, ◌≢◌, ◌⊎◌, ◌↔◌, ◌<◌, ◌≤◌, ℕ, Bool, List, [], ◌∷◌, IsTrue, get_or}
use Rattle.jv_stackmap.specs.declared.verification.VerificationTypeOf.TheVariants as types
use Rattle.jv_meaning_world.specs.Flow.{flows}
use Rattle.jv_verify_types.specs.Numbered.{Item}
use Rattle.jv_verify_types.specs.Typed.{TypeWorld, typed}
use Rattle.jv_verify_wants.specs.declared.variable.Want.{Want}
use Rattle.jv_verify_wants.specs.Inside.Codes.{Code}

-- what is kept of a local variable: what is wanted of it, and which types are remembered to be allowed by how many wants, the first ones
pub record Kept : Type 0 where
  pub wants : List Want
  pub last : Item
  pub last_allowed : ℕ
  pub allowed : List (Code × ℕ)

abbrev pub blank : Kept
blank = record { wants = []; last = types.Top; last_allowed = 0; allowed = [] }

-- of each local variable
abbrev pub Wants : Type 0
Wants = List Kept

-- a type is wanted at an offset
abbrev pub IsAmong : List Want → Item → ℕ → Type 0
IsAmong [] item offset = ⊥
IsAmong (want ∷ more) item offset = ((want.item ≡ item) × (offset < want.until)) ⊎ IsAmong more item offset

-- what is wanted of the local variable with an index
abbrev pub wanted_at : Wants → ℕ → List Want
wanted_at wants place = (get_or wants place blank).wants

-- a type is wanted of a local variable at an offset
abbrev pub IsWanted : Wants → ℕ → Item → ℕ → Type 0
IsWanted wants place item offset = IsAmong (wanted_at wants place) item offset

-- A type is wanted of a local variable more, until an offset, and all else as before, from an offset on. Nothing is wanted by top.
abbrev pub AddsWant : (old new : Wants) → (place : ℕ) → Item → (until offset : ℕ) → Type 0
AddsWant old new place item until offset =
    (p : ℕ) (t : Item) (q : ℕ) → offset ≤ q
    → IsWanted new p t q ↔ (IsWanted old p t q ⊎ ((p ≡ place) × (t ≡ item) × (item ≢ types.Top) × (q < until)))

-- as before from an offset on
abbrev pub WantsSame : (old new : Wants) → (offset : ℕ) → Type 0
WantsSame old new offset = (p : ℕ) (t : Item) (q : ℕ) → offset ≤ q → IsWanted new p t q ↔ IsWanted old p t q

-- a type flows to another (4.10.1.2), by their numbers
abbrev pub flows_by : TypeWorld → Item → Item → Bool
flows_by types from to = flows types.world (typed types.names from) (typed types.names to)

-- a type flows to all that is wanted of a local variable at an offset
abbrev pub FlowsToWanted : TypeWorld → Item → Wants → (place offset : ℕ) → Type 0
FlowsToWanted types item wants place offset = (other : Item) → IsWanted wants place other offset → IsTrue (flows_by types item other)
