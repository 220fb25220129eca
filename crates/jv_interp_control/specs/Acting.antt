-- What the machine makes of an instruction's effect (JVMS 2.6, 2.10, 2.11, 5.5): the method that ran it goes on in its registers, or it is
-- left or waits, and then all frames stand in their records.
use Rattle.std.specs.Prelude.{◌≡◌, ℕ, ◌≤◌, Bool, true, false, List, ◌∷◌, Some, Ok, length, reverse, slice_get, vec_capacity}
use Rattle.jv_meaning_world.specs.World.{World}
use Rattle.jv_meaning_world.specs.Overriding.{Declared}
use Rattle.jv_meaning_machine.specs.Values.{words_of_values}
use Rattle.jv_meaning_machine.specs.Frames.{MethodFrame, Frame}
use Rattle.jv_meaning_machine.specs.Frames.Frame.{Runs}
use Rattle.jv_meaning_machine.specs.State.{Program, entered_method, Memory, State}
use Rattle.jv_meaning_machine.specs.Alone.{FindsInstructions}
use Rattle.jv_meaning_machine.specs.Effects.{Effect as EffectOfNames}
use Rattle.jv_meaning_machine.specs.Step.{act}
use Rattle.jv_interp_words.specs.declared.registers.Registers.{Registers}
use Rattle.jv_interp_words.specs.FramesInWords.{in_use, methods_of, AreFrames}
use Rattle.jv_interp_held.specs.declared.effect.Effect.{Effect}
use Rattle.jv_interp_held.specs.EffectsInWords.{OutcomeStands}
use Rattle.jv_interp_held.specs.HeldInWords.{MemoryStands}
use Rattle.jv_interp_heap.specs.SystemNumbers.{IsGuestsWorld}
use Rattle.jv_interp_control.specs.declared.frames.Frames.{Frames}
use Rattle.jv_interp_control.specs.ControlStands.{ControlStands}
use Rattle.jv_interp_control.specs.Moves.{AreVerified}
use Rattle.jv_interp_control.specs.Standing.{Kept, Reaches}
use Rattle.jv_interp_control.specs.Running.{HaveRoom, StateRuns}

-- The method of a frame is the one that the registers tell: its number, its code, and where its words begin, on those below. The frame is
-- as it was when it stood in words before the instruction: its stack is within max_stack.
pub record RunsIn (program : Program) (frame : MethodFrame) (at : Registers) (below : List ℕ) : Type 0 where
  pub declared : Declared
  pub has_number : slice_get (methods_of program.world) at.method ≡ Some declared
  pub entered : entered_method program declared ≡ Ok frame.method
  pub base_is : at.base ≡ length below
  pub locals_count : length frame.locals ≡ frame.method.code.max_locals
  pub stack_fits : words_of_values frame.stack ≤ frame.method.code.max_stack
  pub code_is : at.code.now ≡ frame.method.code.code

-- In the current frame of a state something was done to the memory, with an effect, as an instruction does: what it did to the memory
-- stands, and its effect stands in registers and words, on those of the frames below; and the machine makes this state of it.
pub record Acting (world : World) (at : Registers) (effect : Effect) (program : Program) (texts : List (List ℕ)) (s t : State)
    (addresses : List ℕ) (before : Kept) : Type 0 where
  pub world_is : program.world ≡ world
  pub guests : IsGuestsWorld program.world
  pub finds : FindsInstructions program.instructions
  pub frame : MethodFrame
  pub others : List Frame
  pub frames_are : s.frames ≡ Runs frame ∷ others
  pub done : Memory × EffectOfNames
  pub does : act program frame others s.control done ≡ Ok t
  pub below : List ℕ
  pub runs : RunsIn program frame at below
  pub effect_stands : OutcomeStands program.world addresses frame done effect at (in_use before.frames.words.items at.top) below
  pub others_stand : AreFrames program addresses others (reverse before.frames.records.items) below
  pub top_within : at.top ≤ length before.frames.words.items
  pub rooms : HaveRoom s.frames s.control.words before.frames
  pub control : ControlStands program.world s.control before.control
  pub memory : MemoryStands program.world texts done.0 addresses before.held before.blocks

-- There is such a state, and of each class it is known whether it was verified.
pub record CanAct (world : World) (verified : List Bool) (at : Registers) (effect : Effect) (before : Kept) : Type 0 where
  pub program : Program
  pub texts : List (List ℕ)
  pub s : State
  pub t : State
  pub addresses : List ℕ
  pub are : AreVerified program verified
  pub acting : Acting world at effect program texts s t addresses before

-- The method goes on in its registers, and nothing else has changed; or all frames stand in records.
abbrev pub ActedTo : Bool → Program → List (List ℕ) → State → List ℕ → Registers → Kept → Kept → Type 0
ActedTo true program texts t addresses at before after = (after ≡ before) × StateRuns program texts t addresses at before
ActedTo false program texts t addresses at before after = Reaches program texts t addresses before after

-- So it is for each such state.
abbrev pub Acted : World → List Bool → Registers → Effect → Kept → Kept → Bool → Type 0
Acted world verified at effect before after goes_on =
    (program : Program) (texts : List (List ℕ)) (s t : State) (addresses : List ℕ) → AreVerified program verified
    → Acting world at effect program texts s t addresses before → ActedTo goes_on program texts t addresses at before after

-- ---- refusals

-- Words, records and what is left are as they were, though a record came and went.
pub record AreAsBefore (before after : Frames) : Type 0 where
  pub words : after.words.items ≡ before.words.items
  pub records : after.records.items ≡ before.records.items
  pub capacity : vec_capacity after.records ≡ vec_capacity before.records
  pub top : after.top ≡ before.top
  pub left : after.left ≡ before.left
