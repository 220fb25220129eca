-- A method that returns, whose frame is in registers (JVMS 2.6.4).
use Rattle.std.specs.Prelude.{ℕ, List}
use Rattle.jv_meaning_world.specs.Overriding.{Declared}
use Rattle.jv_meaning_machine.specs.Values.{Value}
use Rattle.jv_meaning_machine.specs.Frames.{MethodFrame, Frame}
use Rattle.jv_meaning_machine.specs.State.{Program, Memory, Control as ControlOfNames, State}
use Rattle.jv_meaning_machine.specs.Costs.{method_words}
use Rattle.jv_interp_words.specs.declared.registers.Registers.{Registers}
use Rattle.jv_interp_members.specs.declared.methods.Methods.{Methods}
use Rattle.jv_interp_control.specs.declared.frames.Frames.{Frames}
use Rattle.jv_interp_control.specs.declared.control.Control.{Control}
use Rattle.jv_interp_control.specs.Leaving.{Leaving, Left}
use Rattle.jv_interp_control.specs.Inside.Codes.{IsCodeOf}

-- It is the method that the registers tell, its result is so many words on top, and the frames below it are left to go on.
pub record Returning (methods : Methods) (at : Registers) (words : ℕ) (frames : Frames) (kept : Control) (program : Program)
    (addresses : List ℕ) (memory : Memory) (frame : MethodFrame) (others : List Frame) (control : ControlOfNames)
    (result : List Value) (t : State) : Type 0 where
  pub declared : Declared
  pub code : IsCodeOf methods at.method program declared frame.method.code
  pub leaving :
      Leaving methods (method_words frame) at.top words
      (record frames { top = at.base }) kept program addresses memory frame others control result t

pub record CanReturn (methods : Methods) (at : Registers) (words : ℕ) (frames : Frames) (kept : Control) : Type 0 where
  pub program : Program
  pub addresses : List ℕ
  pub memory : Memory
  pub frame : MethodFrame
  pub others : List Frame
  pub control : ControlOfNames
  pub result : List Value
  pub t : State
  pub returning : Returning methods at words frames kept program addresses memory frame others control result t

abbrev pub Returned : Methods → Registers → ℕ → Frames → Control → Frames → Control → Type 0
Returned methods at words frames kept frames_after kept_after =
    (program : Program) (addresses : List ℕ) (memory : Memory) (frame : MethodFrame) (others : List Frame) (control : ControlOfNames)
    (result : List Value) (t : State)
    → Returning methods at words frames kept program addresses memory frame others control result t
    → Left program addresses memory t frames_after kept_after
