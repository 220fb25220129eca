-- A method is left (JVMS 2.6.4, 6.5), whose record is gone: memory stays as it is.
use Rattle.std.specs.Prelude.{◌≡◌, ℕ, ◌+◌, ◌≤◌, List, ◌++◌, Ok, length}
use Rattle.jv_meaning_machine.specs.Values.{Value, words_of_values}
use Rattle.jv_meaning_machine.specs.Frames.{MethodFrame, Frame}
use Rattle.jv_meaning_machine.specs.State.{Program, Memory, Control as ControlOfNames, State}
use Rattle.jv_meaning_machine.specs.Alone.{FindsInstructions}
use Rattle.jv_meaning_machine.specs.Costs.{method_words}
use Rattle.jv_meaning_machine.specs.Entering.{leave}
use Rattle.jv_meaning_machine.specs.Laws.Shapes.{used_words}
use Rattle.jv_interp_words.specs.ValuesInWords.{AreOnTop}
use Rattle.jv_interp_words.specs.FramesInWords.{in_use}
use Rattle.jv_interp_members.specs.declared.methods.Methods.{Methods}
use Rattle.jv_interp_members.specs.Methods.{AreMethods}
use Rattle.jv_interp_control.specs.declared.frames.Frames.{Frames}
use Rattle.jv_interp_control.specs.declared.control.Control.{Control}
use Rattle.jv_interp_control.specs.FramesStand.{FramesStand}
use Rattle.jv_interp_control.specs.ControlStands.{ControlStands}

-- The frames below stand; the method's words, of which there are so many, are still given; and its result are so many words on top.
pub record Leaving (methods : Methods) (given top count : ℕ) (frames : Frames) (kept : Control) (program : Program)
    (addresses : List ℕ) (memory : Memory) (frame : MethodFrame) (below : List Frame) (control : ControlOfNames)
    (result : List Value) (t : State) : Type 0 where
  pub are : AreMethods program.world methods
  pub finds : FindsInstructions program.instructions
  pub stand : FramesStand program addresses below frames control.words
  pub control_stands : ControlStands program.world control kept
  pub given_is : method_words frame ≡ given
  pub room : given + (used_words below + control.words) ≤ length frames.words.items
  pub count_is : count ≡ words_of_values result
  pub within : top ≤ length frames.words.items
  pub above : List ℕ
  pub on_top : AreOnTop addresses result (in_use frames.words.items top) (above ++ in_use frames.words.items frames.top)
  pub does : leave memory frame below control result ≡ Ok t

pub record CanLeave (methods : Methods) (given top count : ℕ) (frames : Frames) (kept : Control) : Type 0 where
  pub program : Program
  pub addresses : List ℕ
  pub memory : Memory
  pub frame : MethodFrame
  pub below : List Frame
  pub control : ControlOfNames
  pub result : List Value
  pub t : State
  pub leaving : Leaving methods given top count frames kept program addresses memory frame below control result t

-- what is below goes on, with the same memory
pub record Left (program : Program) (addresses : List ℕ) (memory : Memory) (t : State) (frames : Frames) (kept : Control) : Type 0 where
  pub stand : FramesStand program addresses t.frames frames t.control.words
  pub control_stands : ControlStands program.world t.control kept
  pub same_memory : t.memory ≡ memory

abbrev pub Leaves : Methods → ℕ → ℕ → ℕ → Frames → Control → Frames → Control → Type 0
Leaves methods given top count frames kept frames_after kept_after =
    (program : Program) (addresses : List ℕ) (memory : Memory) (frame : MethodFrame) (below : List Frame) (control : ControlOfNames)
    (result : List Value) (t : State)
    → Leaving methods given top count frames kept program addresses memory frame below control result t
    → Left program addresses memory t frames_after kept_after
