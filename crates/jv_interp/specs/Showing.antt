-- What a guest shows (own).
use Rattle.std.specs.Prelude.{◌≡◌, ◌↔◌, ℕ, suc, ◌+◌, Bool, true, List, Ok}
use Rattle.std.specs.Option.{option_map}
use Rattle.std.specs.Borrow.{Bor}
use Rattle.jv_meaning_machine.specs.State.{State, ThrowPlace as ThrowPlaceOfNames, End as EndOfNames}
use Rattle.jv_meaning_machine.specs.State.End.{Running, Returned, Threw, NoMain}
use Rattle.jv_meaning_machine.specs.Start.{Budget}
use Rattle.jv_meaning_machine.specs.Alone.{GuestFiles, Feed, alone}
use Rattle.jv_meaning_machine.specs.Observation.{Observed, Shows}
use Rattle.jv_interp_heap.specs.ObjectsInBlocks.{Blocks}
use Rattle.jv_interp.specs.declared.guest.Guest.{Guest}
use Rattle.jv_interp.specs.declared.observation.Observation.{Observation}
use Rattle.jv_interp.specs.declared.observation.ThrowPlace.{ThrowPlace}
use Rattle.jv_interp.specs.declared.observation.GuestEnd.{GuestEnd}
use Rattle.jv_interp.specs.declared.observation.GuestEnd.TheVariants as ends
use Rattle.jv_interp.specs.Standing.{GuestStands}

abbrev pub seen_end : GuestEnd → EndOfNames
seen_end ends.Running = Running
seen_end ends.Returned = Returned
seen_end (ends.Threw name) = Threw name.now
seen_end ends.NoMain = NoMain

abbrev pub bytes_seen : Bor (List ℕ) → List ℕ
bytes_seen bytes = bytes.now

abbrev pub seen_place : ThrowPlace → ThrowPlaceOfNames
seen_place p = record { class = p.class.now; method = p.method.now; descriptor = p.descriptor.now; offset = p.offset }

abbrev pub observed_of : Observation → Observed
observed_of o = record {
  verdicts = o.verdicts.now;
  steps = o.steps;
  output = o.output.now;
  throws = o.throws;
  last = option_map bytes_seen o.last;
  place = option_map seen_place o.place;
  end = seen_end o.end;
}

-- It is what the guest that stands here shows alone after as many of its own steps.
abbrev pub IsShown : Guest → Observation → Type 0
IsShown guest o =
    (g : GuestFiles) (b : Budget) (feeds : List Feed) (n : ℕ) (addresses : List ℕ) (blocks : Blocks)
    → GuestStands g b feeds n addresses guest blocks
    → Shows g b feeds n (observed_of o)

-- It has ended.
abbrev pub HasEnded : Guest → Blocks → Type 0
HasEnded guest blocks =
    (g : GuestFiles) (b : Budget) (feeds : List Feed) (n : ℕ) (addresses : List ℕ) (h : GuestStands g b feeds n addresses guest blocks)
    → h.state.control.end ≡ Running → ⊥

-- It takes steps: it has not ended.
abbrev pub TakesSteps : Guest → Blocks → Type 0
TakesSteps guest blocks =
    (g : GuestFiles) (b : Budget) (feeds : List Feed) (n : ℕ) (addresses : List ℕ) (h : GuestStands g b feeds n addresses guest blocks)
    → h.state.control.end ≡ Running

-- The answer is whether it takes steps.
abbrev pub IsAnswered : Guest → Bool → Type 0
IsAnswered guest running =
    (g : GuestFiles) (b : Budget) (feeds : List Feed) (n : ℕ) (addresses : List ℕ) (blocks : Blocks)
    (h : GuestStands g b feeds n addresses guest blocks) → (running ≡ true) ↔ (h.state.control.end ≡ Running)

-- It had not ended before the last of so many steps.
abbrev pub RanToLast : ℕ → Guest → Blocks → Type 0
RanToLast k guest blocks =
    (g : GuestFiles) (b : Budget) (feeds : List Feed) (n : ℕ) (addresses : List ℕ) (h : GuestStands g b feeds n addresses guest blocks)
    (j : ℕ) (s : State) → suc j ≡ k → alone h.judged g b feeds (n + j) ≡ Ok s → s.control.end ≡ Running
