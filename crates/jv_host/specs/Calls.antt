-- What the host's calls do (own).
use Rattle.std.specs.Prelude.{◌≡◌, ℕ, zero, suc, ◌+◌, ◌-◌, ◌<◌, ◌≤◌, ◌^◌, List, [], length, Some, slice_get}
use Rattle.jv_meaning_typing.specs.declared.verdict.Verdict.{Verdict}
use Rattle.jv_meaning_machine.specs.Start.{Budget}
use Rattle.jv_meaning_machine.specs.Alone.{GuestFiles}
use Rattle.jv_meaning_machine.specs.Observation.{Observed, Shows}
use Rattle.jv_host.specs.Host.{Admission, WasRunning, IsFullTurn, IsRunningAfter, IsOverAfter, stepped, after_steps}

-- a guest at its start
abbrev pub admission : GuestFiles → Budget → Admission
admission g b = record { guest = g; budget = b; feeds = []; steps = 0 }

-- ---- turns

-- A turn of at most n steps took k: as many as n, or as there were to the guest's end, or as can be counted; and the guest was
-- running before each.
pub record HadTurn (a : Admission) (n k : ℕ) : Type 0 where
  pub most : k ≤ n
  pub running : WasRunning a k
  pub full : IsFullTurn a n k
  pub countable : a.steps + k < 2 ^ 64

-- A turn of at most n steps took k, and the next one, before which the guest was running too, was not taken.
pub record HadCutTurn (a : Admission) (n k : ℕ) : Type 0 where
  pub early : k < n
  pub running : WasRunning a (k + 1)
  pub countable : a.steps + k < 2 ^ 64 - 1

-- The guest with a number had such a turn, and no other guest changed.
pub record IsTurn (old new : List Admission) (id n k : ℕ) : Type 0 where
  pub guest : Admission
  pub found : slice_get old id ≡ Some guest
  pub had : HadTurn guest n k
  pub after : new ≡ after_steps old id k

pub record IsCutTurn (old new : List Admission) (id n k : ℕ) : Type 0 where
  pub guest : Admission
  pub found : slice_get old id ≡ Some guest
  pub had : HadCutTurn guest n k
  pub after : new ≡ after_steps old id k

-- ---- rounds

-- the guest with a number, which there is, takes steps
abbrev pub RunsAt : List Admission → (id : ℕ) → Type 0
RunsAt guests id = (a : Admission) × (slice_get guests id ≡ Some a) × IsRunningAfter a a.steps

-- it has ended, if there is one
abbrev pub OverAt : List Admission → (id : ℕ) → Type 0
OverAt guests id = (a : Admission) → slice_get guests id ≡ Some a → IsOverAfter a a.steps

-- some guest takes steps
abbrev pub SomeRuns : List Admission → Type 0
SomeRuns guests = (id : ℕ) × RunsAt guests id

-- each has ended
abbrev pub NoneRuns : List Admission → Type 0
NoneRuns guests = (id : ℕ) → OverAt guests id

-- a turn that led from one value to the other
abbrev pub TookTurn : (n : ℕ) → Admission → Admission → Type 0
TookTurn n before after = (k : ℕ) × HadTurn before n k × (after ≡ stepped k before)

-- Each of the first guests, so many of them, had a turn of at most n steps, and no other guest changed. One that has ended takes no
-- step.
pub record HadTurns (n count : ℕ) (old new : List Admission) : Type 0 where
  pub same_count : length new ≡ length old
  pub had :
      (id : ℕ) (a : Admission) → id < count → slice_get old id ≡ Some a
      → (b : Admission) × (slice_get new id ≡ Some b) × TookTurn n a b
  pub others : (id : ℕ) → count ≤ id → slice_get new id ≡ slice_get old id

-- a round: each guest had a turn, in order of admission
abbrev pub IsRound : (n : ℕ) → List Admission → List Admission → Type 0
IsRound n old new = HadTurns n (length old) old new

-- A round that was cut: those admitted before one guest had their turns, its own turn was cut after k steps, and those behind it had none.
pub record IsCutRound (n : ℕ) (old new : List Admission) (k : ℕ) : Type 0 where
  pub id : ℕ
  pub before : List Admission
  pub turns : HadTurns n id old before
  pub cut : IsCutTurn before new id n k

-- so many rounds, before each of which some guest took steps
abbrev pub Rounds : (n rounds : ℕ) → List Admission → List Admission → Type 0
Rounds n zero old new = new ≡ old
Rounds n (suc m) old new = (before : List Admission) × Rounds n m old before × SomeRuns before × IsRound n before new

-- At most so many rounds were m: all of them, or as many as there were until each guest had ended.
pub record IsRun (n rounds : ℕ) (old new : List Admission) (m : ℕ) : Type 0 where
  pub most : m ≤ rounds
  pub went : Rounds n m old new
  pub full : m < rounds → NoneRuns new

-- Some rounds were whole, fewer than asked for, and the next one, before which some guest took steps, was cut.
pub record IsCutRun (n rounds : ℕ) (old new : List Admission) (k : ℕ) : Type 0 where
  pub whole : ℕ
  pub early : whole < rounds
  pub before : List Admission
  pub went : Rounds n whole old before
  pub running : SomeRuns before
  pub cut : IsCutRound n before new k

-- ---- observations

-- the guest with a number shows what it shows alone after as many of its own steps
pub record IsShown (guests : List Admission) (id : ℕ) (o : Observed) : Type 0 where
  pub guest : Admission
  pub found : slice_get guests id ≡ Some guest
  pub alone : Shows guest.guest guest.budget guest.feeds guest.steps o

-- and these are its verdicts
abbrev pub AreShown : List Admission → (id : ℕ) → List Verdict → Type 0
AreShown guests id verdicts = (o : Observed) × IsShown guests id o × (verdicts ≡ o.verdicts)
