-- What a guest shows after some number of its own steps (own).
use Rattle.std.specs.Prelude.{◌≡◌, ℕ, List, Option, Ok, IsErr}
use Rattle.jv_meaning_typing.specs.declared.verdict.Verdict.{Verdict}
use Rattle.jv_meaning_machine.specs.State.{State, ThrowPlace, End}
use Rattle.jv_meaning_machine.specs.Start.{Budget}
use Rattle.jv_meaning_machine.specs.Alone.{GuestFiles, Judged, IsJudged, Feed, alone}

-- the verdicts on its files, its steps, what it wrote, how many throws there were and the class and place of the last one, and how it
-- ended
pub record Observed : Type 0 where
  pub verdicts : List Verdict
  pub steps : ℕ
  pub output : List ℕ
  pub throws : ℕ
  pub last : Option (List ℕ)
  pub place : Option ThrowPlace
  pub end : End

abbrev pub observation : List Verdict → ℕ → State → Observed
observation verdicts n s = record {
  verdicts = verdicts;
  steps = n;
  output = s.memory.output;
  throws = s.control.throws;
  last = s.control.last;
  place = s.control.place;
  end = s.control.end;
}

-- A guest that is fed so shows this after n of its own steps, alone.
pub record Shows (g : GuestFiles) (b : Budget) (feeds : List Feed) (n : ℕ) (o : Observed) : Type 0 where
  pub judged : Judged
  pub right : IsJudged g.library g.files judged
  pub state : State
  pub ran : alone judged g b feeds n ≡ Ok state
  pub shown : o ≡ observation judged.verdicts n state

-- The machine meets a fault within n of the guest's own steps.
pub record FaultsWithin (g : GuestFiles) (b : Budget) (feeds : List Feed) (n : ℕ) : Type 0 where
  pub judged : Judged
  pub right : IsJudged g.library g.files judged
  pub fault : IsErr (alone judged g b feeds n)
