-- So many steps, one after the other (JVMS 2.11).
use Rattle.std.specs.Prelude.{◌≡◌, ℕ, List, Ok, IsOk}
use Rattle.jv_meaning_machine.specs.State.{Program, State}
use Rattle.jv_meaning_machine.specs.Step.{after_steps}
use Rattle.jv_meaning_machine.specs.Alone.{FindsInstructions}
use Rattle.jv_interp_words.specs.declared.records.FrameRecord.{FrameRecord}
use Rattle.jv_interp_words.specs.declared.registers.Registers.{Registers}
use Rattle.jv_interp_words.specs.ValuesInWords.{AreAddresses}
use Rattle.jv_interp_words.specs.StatesInWords.{RunningStands}
use Rattle.jv_interp_words.specs.Stepping.{Stepped}

-- The frames of a state stand here.
pub record StandsHere (program : Program) (s : State) (addresses : List ℕ) (waiting : List FrameRecord) (at : Registers)
    (words : List ℕ) : Type 0 where
  pub running : RunningStands program addresses s.frames at waiting words s.control.words
  pub apart : AreAddresses addresses
  pub finds : FindsInstructions program.instructions

-- Those of some state do, from which no number of steps meets a fault.
pub record CanRun (at : Registers) (words : List ℕ) : Type 0 where
  pub program : Program
  pub s : State
  pub addresses : List ℕ
  pub waiting : List FrameRecord
  pub stands : StandsHere program s addresses waiting at words
  pub never_faults : (n : ℕ) → IsOk (after_steps program n s)

-- For every state whose frames stood there, those of the state after so many steps do.
abbrev pub RunsTo : ℕ → Registers → List ℕ → Registers → List ℕ → Type 0
RunsTo n at words at_after words_after =
    (program : Program) (s t : State) (addresses : List ℕ) (waiting : List FrameRecord) → StandsHere program s addresses waiting at words
    → after_steps program n s ≡ Ok t → Stepped program s t addresses waiting at at_after words_after
