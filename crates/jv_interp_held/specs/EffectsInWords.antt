-- How the effect of an instruction stands in numbers, registers and words (JVMS 2.11, 6.5): what goes on, is entered or left has its words
-- on top; where something is thrown, or an initialization is begun, the frame is as it was.
use Rattle.std.specs.Prelude.{◌≡◌, ℕ, ◌≤◌, List, ◌++◌, Some, length, reverse, slice_get}
use Rattle.std.specs.List.{flat_map}
use Rattle.jv_meaning_world.specs.World.{World}
use Rattle.jv_meaning_world.specs.Overriding.{Declared}
use Rattle.jv_meaning_machine.specs.Values.{Value, words_of_values}
use Rattle.jv_meaning_machine.specs.Objects.Object.{InstanceOf}
use Rattle.jv_meaning_machine.specs.Frames.{MethodFrame, local_words}
use Rattle.jv_meaning_machine.specs.State.{Memory}
use Rattle.jv_meaning_machine.specs.Effects.{Effect as EffectOfNames}
use Rattle.jv_meaning_machine.specs.Effects.Effect.{Goes, Enters, Constructs, Leaves, Throws, Raises, Begins}
use Rattle.jv_meaning_machine.specs.Entering.{passed_values}
use Rattle.jv_interp_words.specs.declared.registers.Registers.{Registers}
use Rattle.jv_interp_words.specs.ValuesInWords.{AreOnTop}
use Rattle.jv_interp_words.specs.FramesInWords.{FrameStands, methods_of}
use Rattle.jv_interp_heap.specs.ObjectsInBlocks.{HasNumber}
use Rattle.jv_interp_held.specs.declared.effect.Effect.{Effect}
use Rattle.jv_interp_held.specs.declared.effect.Effect.TheVariants as effects

-- the frame is as it was, at its instruction
pub record Stays (addresses : List ℕ) (frame : MethodFrame) (at : Registers) (used below : List ℕ) : Type 0 where
  pub pc_is : at.pc ≡ frame.offset
  pub stand : FrameStands addresses frame.locals frame.stack used below

-- it goes on, with these local variables and this stack
pub record GoesOnAt (addresses : List ℕ) (frame : MethodFrame) (offset : ℕ) (locals stack : List Value) (at : Registers)
    (used below : List ℕ) : Type 0 where
  pub pc_is : at.pc ≡ offset
  pub count : length locals ≡ length frame.locals
  pub stand : FrameStands addresses locals stack used below

-- the method with a number is entered: what is passed is on top of what is left of the frame, whose stack has no more words than it had
pub record EntersWith (world : World) (addresses : List ℕ) (frame : MethodFrame) (d : Declared) (passed stack : List Value)
    (number words : ℕ) (at : Registers) (used below : List ℕ) : Type 0 where
  pub pc_is : at.pc ≡ frame.offset
  pub has_number : slice_get (methods_of world) number ≡ Some d
  pub words_are : words ≡ length (flat_map local_words passed)
  pub under : List ℕ
  pub on_top : AreOnTop addresses (reverse passed) used under
  pub left : FrameStands addresses frame.locals stack under below
  pub no_more : words_of_values stack ≤ words_of_values frame.stack

-- the method returns: its result is on top of its other words
pub record LeavesWith (addresses : List ℕ) (result : List Value) (words : ℕ) (used below : List ℕ) : Type 0 where
  pub words_are : words ≡ words_of_values result
  pub above : List ℕ
  pub on_top : AreOnTop addresses result used (above ++ below)

abbrev pub EffectStands : World → List ℕ → MethodFrame → EffectOfNames → Effect → Registers → List ℕ → List ℕ → Type 0
EffectStands world addresses frame (Goes offset locals stack) effects.Goes at used below =
    GoesOnAt addresses frame offset locals stack at used below
EffectStands world addresses frame (Enters d receiver arguments stack) (effects.Enters number words) at used below =
    EntersWith world addresses frame d (passed_values receiver arguments) stack number words at used below
EffectStands world addresses frame (Constructs d object instance arguments stack) (effects.Enters number words) at used below =
    EntersWith world addresses frame d (passed_values (Some object) arguments) stack number words at used below
EffectStands world addresses frame (Leaves result) (effects.Leaves words) at used below = LeavesWith addresses result words used below
EffectStands world addresses frame (Throws object) (effects.Throws address) at used below =
    (slice_get addresses object ≡ Some address) × Stays addresses frame at used below
EffectStands world addresses frame (Raises class) (effects.Raises number) at used below =
    HasNumber world class number × Stays addresses frame at used below
EffectStands world addresses frame (Begins l) (effects.Begins number) at used below =
    (slice_get world number ≡ Some l) × Stays addresses frame at used below
EffectStands world addresses frame _ _ at used below = ⊥

-- The same with the memory that was left: an `<init>` is entered on an object of that, which is as the effect says. So what the machine
-- then notes in it, which `<init>` was entered, changes no word.
abbrev pub OutcomeStands : World → List ℕ → MethodFrame → Memory × EffectOfNames → Effect → Registers → List ℕ → List ℕ → Type 0
OutcomeStands world addresses frame (memory, Constructs d object instance arguments stack) in_words at used below =
    (slice_get memory.objects object ≡ Some (InstanceOf instance))
    × EffectStands world addresses frame (Constructs d object instance arguments stack) in_words at used below
OutcomeStands world addresses frame (memory, effect) in_words at used below =
    EffectStands world addresses frame effect in_words at used below
