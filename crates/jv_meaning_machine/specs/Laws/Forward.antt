-- Laws of a guest alone that goes forward (JVMS 2.9, 5.5): what can't be taken back.
use Rattle.std.specs.Prelude.{◌≡◌, ℕ, ◌+◌, ◌-◌, ◌^◌, ◌≤◌, List, Ok}
use Rattle.jv_meaning_world.specs.World.{Loaded}
use Rattle.jv_meaning_machine.specs.State.{Program, State, class_state}
use Rattle.jv_meaning_machine.specs.State.ClassState.{Initialized, Erroneous}
use Rattle.jv_meaning_machine.specs.Start.{Budget}
use Rattle.jv_meaning_machine.specs.Step.{after_steps}
use Rattle.jv_meaning_machine.specs.Alone.{GuestFiles, Judged, IsJudged, Feed, alone}
use Rattle.jv_meaning_machine.specs.Laws.Kept.{StayConstructed}

-- a state of a guest alone, and a later one
pub record IsLater (judged : Judged) (g : GuestFiles) (b : Budget) (feeds : List Feed) (before later : State) : Type 0 where
  pub right : IsJudged g.library g.files judged
  pub n : ℕ
  pub more : ℕ
  pub ran : alone judged g b feeds n ≡ Ok before
  pub ran_on : alone judged g b feeds (n + more) ≡ Ok later

-- A class that is initialized stays so (JVMS 5.5).
abbrev pub InitializedStays : Type 0
InitializedStays =
    (judged : Judged) (g : GuestFiles) (b : Budget) (feeds : List Feed) (before later : State) (l : Loaded)
    → IsLater judged g b feeds before later → class_state before.control.states l ≡ Initialized
    → class_state later.control.states l ≡ Initialized

-- And one that is erroneous stays so.
abbrev pub ErroneousStays : Type 0
ErroneousStays =
    (judged : Judged) (g : GuestFiles) (b : Budget) (feeds : List Feed) (before later : State) (l : Loaded)
    → IsLater judged g b feeds before later → class_state before.control.states l ≡ Erroneous
    → class_state later.control.states l ≡ Erroneous

-- Throws are never fewer, and their count stays within 64 bits.
abbrev pub ThrowsNeverFall : Type 0
ThrowsNeverFall =
    (judged : Judged) (g : GuestFiles) (b : Budget) (feeds : List Feed) (before later : State) → IsLater judged g b feeds before later
    → (before.control.throws ≤ later.control.throws) × (later.control.throws ≤ 2 ^ 64 - 1)

-- An object that is constructed stays so, over any number of steps of any program (JVMS 2.9).
abbrev pub ConstructedStays : Type 0
ConstructedStays =
    (program : Program) (n : ℕ) (before later : State) → after_steps program n before ≡ Ok later
    → StayConstructed before.memory.objects later.memory.objects
