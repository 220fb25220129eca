-- A step of a method that runs, in registers and words (JVMS 2.11): where they stand for the frames of a state from which the
-- machine takes a step with no fault, they stand for those of the next one afterwards.
use Rattle.std.specs.Prelude.{◌≡◌, ℕ, Bool, true, false, List, Ok}
use Rattle.jv_meaning_machine.specs.State.{Program, State}
use Rattle.jv_meaning_machine.specs.Step.{step}
use Rattle.jv_meaning_machine.specs.Alone.{FindsInstructions}
use Rattle.jv_interp_words.specs.declared.records.FrameRecord.{FrameRecord}
use Rattle.jv_interp_words.specs.declared.registers.Registers.{Registers}
use Rattle.jv_interp_words.specs.ValuesInWords.{AreAddresses}
use Rattle.jv_interp_words.specs.StatesInWords.{RunningStands}
use Rattle.jv_interp_words.specs.Going.{StaysIn}

-- The machine takes a step from a state whose frames stand here.
pub record StepsFrom (program : Program) (s t : State) (addresses : List ℕ) (waiting : List FrameRecord) (at : Registers)
    (words : List ℕ) : Type 0 where
  pub running : RunningStands program addresses s.frames at waiting words s.control.words
  pub apart : AreAddresses addresses
  pub finds : FindsInstructions program.instructions
  pub goes : step program s ≡ Ok t

-- There is such a state.
pub record CanStep (at : Registers) (words : List ℕ) : Type 0 where
  pub program : Program
  pub s : State
  pub t : State
  pub addresses : List ℕ
  pub waiting : List FrameRecord
  pub from : StepsFrom program s t addresses waiting at words

-- The frames of the next state stand here, under the same addresses, above the same records of frames that wait; its memory and control
-- are those before. Of the registers, only the offset and the number of words in use may have changed: the code, the frame's base, the
-- constants' first and the method's number are those before. Words beyond those in use may be any.
pub record Stepped (program : Program) (s t : State) (addresses : List ℕ) (waiting : List FrameRecord) (at at_after : Registers)
    (words_after : List ℕ) : Type 0 where
  pub running : RunningStands program addresses t.frames at_after waiting words_after t.control.words
  pub same_memory : t.memory ≡ s.memory
  pub same_control : t.control ≡ s.control
  pub stays : StaysIn at at_after words_after

-- For every such state a step was taken.
abbrev pub StepsTo : Registers → List ℕ → Registers → List ℕ → Type 0
StepsTo at words at_after words_after =
    (program : Program) (s t : State) (addresses : List ℕ) (waiting : List FrameRecord)
    → StepsFrom program s t addresses waiting at words → Stepped program s t addresses waiting at at_after words_after

-- A step was taken, or nothing was done.
abbrev pub TookStep : Bool → Registers → List ℕ → Registers → List ℕ → Type 0
TookStep true at words at_after words_after = StepsTo at words at_after words_after
TookStep false at words at_after words_after = (at_after ≡ at) × (words_after ≡ words)
