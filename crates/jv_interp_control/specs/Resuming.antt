-- The method of the newest frame goes on in registers (JVMS 2.5.1, 2.6).
use Rattle.std.specs.Prelude.{◌≡◌, ℕ, ⊤, List, [], ◌∷◌, ◌++◌, Option, Some, None, vec_capacity}
use Rattle.jv_meaning_machine.specs.Frames.{Frame}
use Rattle.jv_meaning_machine.specs.Frames.Frame.{Runs, Initializes}
use Rattle.jv_meaning_machine.specs.State.{Program}
use Rattle.jv_interp_words.specs.declared.registers.Registers.{Registers}
use Rattle.jv_interp_words.specs.declared.records.FrameRecord.TheVariants as records
use Rattle.jv_interp_words.specs.StatesInWords.{record_of, RunningStands}
use Rattle.jv_interp_members.specs.declared.methods.Methods.{Methods}
use Rattle.jv_interp_members.specs.Methods.{AreMethods}
use Rattle.jv_interp_control.specs.declared.frames.Frames.{Frames}
use Rattle.jv_interp_control.specs.FramesStand.{FramesStand}
use Rattle.jv_interp_control.specs.Running.{HaveRoom}
use Rattle.jv_interp_control.specs.Acting.{AreAsBefore}

-- All frames stand in their records.
pub record Resuming (methods : Methods) (frames : Frames) (program : Program) (addresses : List ℕ) (all : List Frame) (left : ℕ)
    : Type 0 where
  pub are : AreMethods program.world methods
  pub stand : FramesStand program addresses all frames left

pub record CanResume (methods : Methods) (frames : Frames) : Type 0 where
  pub program : Program
  pub addresses : List ℕ
  pub all : List Frame
  pub left : ℕ
  pub resuming : Resuming methods frames program addresses all left

-- The newest stands in registers then, the others in their records.
pub record Resumed (program : Program) (addresses : List ℕ) (all : List Frame) (left : ℕ) (at : Registers) (frames : Frames) : Type 0 where
  pub running : RunningStands program addresses all at frames.records.items frames.words.items left
  pub rooms : HaveRoom all left frames

-- the newest of frames, if there is one, is an initialization
abbrev pub NoneRuns : List Frame → Type 0
NoneRuns [] = ⊤
NoneRuns (Runs frame ∷ below) = ⊥
NoneRuns (Initializes frame ∷ below) = ⊤

abbrev pub Resumes : Methods → Frames → Frames → Option Registers → Type 0
Resumes methods frames after (Some at) =
    (program : Program) (addresses : List ℕ) (all : List Frame) (left : ℕ) → Resuming methods frames program addresses all left
    → Resumed program addresses all left at after
Resumes methods frames after None =
    AreAsBefore frames after
    × ((program : Program) (addresses : List ℕ) (all : List Frame) (left : ℕ) → Resuming methods frames program addresses all left
    → NoneRuns all)

-- The newest record was taken out; it is the one that the registers would be kept in.
pub record IsTakenOut (before after : Frames) (at : Registers) : Type 0 where
  pub record_is : before.records.items ≡ after.records.items ++ records.Runs (record_of at) ∷ []
  pub capacity : vec_capacity after.records ≡ vec_capacity before.records
  pub top_is : at.top ≡ before.top
  pub others : after ≡ record before { records = after.records }
