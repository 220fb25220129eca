-- What the host holds: each guest's files, budget, feeds and steps (own).
use Rattle.std.specs.Prelude.{◌≡◌, ◌≢◌, ℕ, zero, suc, ◌+◌, ◌<◌, ◌-◌, ◌^◌, ◌⊎◌, List, [], ◌∷◌, ◌++◌, length}
use Rattle.jv_meaning_machine.specs.State.End.{Running}
use Rattle.jv_meaning_machine.specs.Start.{Budget}
use Rattle.jv_meaning_machine.specs.Alone.{GuestFiles, Feed}
use Rattle.jv_meaning_machine.specs.Observation.{Observed, Shows}

-- a guest that was admitted: what it brought, what it may use, what came to its input and when, and how many steps it has taken
pub record Admission : Type 0 where
  pub guest : GuestFiles
  pub budget : Budget
  pub feeds : List Feed
  pub steps : ℕ

-- ---- what calls change

-- a list with the item at one place changed, and no other
abbrev pub changed_at : {X : Type 0} → (X → X) → List X → (place : ℕ) → List X
changed_at change [] place = []
changed_at change (x ∷ xs) zero = change x ∷ xs
changed_at change (x ∷ xs) (suc place) = x ∷ changed_at change xs place

-- so many further steps of a guest
abbrev pub stepped : ℕ → Admission → Admission
stepped k a = record a { steps = a.steps + k }

-- bytes came to a guest, at its own step; no bytes are no feed
abbrev pub fed_now : List ℕ → Admission → Admission
fed_now [] a = a
fed_now (byte ∷ bytes) a = record a { feeds = a.feeds ++ record { own_step = a.steps; bytes = byte ∷ bytes } ∷ [] }

-- the host after so many further steps of one guest
abbrev pub after_steps : List Admission → (id k : ℕ) → List Admission
after_steps guests id k = changed_at (stepped k) guests id

-- the host after bytes came to one guest
abbrev pub after_feed : List Admission → (id : ℕ) → List ℕ → List Admission
after_feed guests id bytes = changed_at (fed_now bytes) guests id

-- ---- turns

-- after so many of its own steps the guest shows that it takes steps, or that it has ended
abbrev pub IsRunningAfter : Admission → ℕ → Type 0
IsRunningAfter a n = (o : Observed) × Shows a.guest a.budget a.feeds n o × (o.end ≡ Running)

abbrev pub IsOverAfter : Admission → ℕ → Type 0
IsOverAfter a n = (o : Observed) × Shows a.guest a.budget a.feeds n o × (o.end ≢ Running)

-- the guest was running before each of k steps
abbrev pub WasRunning : Admission → ℕ → Type 0
WasRunning a k = (j : ℕ) → j < k → IsRunningAfter a (a.steps + j)

-- k steps are as many as n, or as there were to the guest's end, or as can be counted
abbrev pub IsFullTurn : Admission → (n k : ℕ) → Type 0
IsFullTurn a n k = k < n → IsOverAfter a (a.steps + k) ⊎ (a.steps + k ≡ 2 ^ 64 - 1)

-- ---- what came to a guest's input

abbrev pub fed_bytes : List Feed → ℕ
fed_bytes [] = 0
fed_bytes (feed ∷ more) = length feed.bytes + fed_bytes more

-- how many bytes, with its input at admission
abbrev pub input_bytes : Admission → ℕ
input_bytes a = length a.guest.input + fed_bytes a.feeds
