-- A step (JVMS 2.11; own): one instruction of the current method, or one task of an initialization. A state that has ended stays.
use Rattle.std.specs.Prelude.{ℕ, zero, suc, List, [], ◌∷◌, Ok}
use Rattle.jv_code.specs.Insns.{Instruction}
use Rattle.jv_meaning_typing.specs.Environment.{instruction_at, offset_behind}
use Rattle.jv_meaning_machine.specs.Faults.{OrFault, found, ◌>>=◌}
use Rattle.jv_meaning_machine.specs.Faults.Fault.{OffsetFault}
use Rattle.jv_meaning_machine.specs.Values.{Value}
use Rattle.jv_meaning_machine.specs.Frames.{MethodFrame, Frame}
use Rattle.jv_meaning_machine.specs.Frames.Frame.{Runs, Initializes}
use Rattle.jv_meaning_machine.specs.State.{Program, Memory, Control, State, state_of}
use Rattle.jv_meaning_machine.specs.Effects.{Effect, Context}
use Rattle.jv_meaning_machine.specs.Effects.Effect.{Goes, Enters, Constructs, Leaves, Throws, Raises, Begins}
use Rattle.jv_meaning_machine.specs.Instructions.{execute}
use Rattle.jv_meaning_machine.specs.Throws.{throw, raise}
use Rattle.jv_meaning_machine.specs.Entering.{at_offset, enter, enter_init, leave}
use Rattle.jv_meaning_machine.specs.Initialization.{begin, initialization_step}

-- the caller waits at its call, with what is left of its stack
abbrev pub waiting : MethodFrame → List Value → Frame
waiting frame stack = Runs (record frame { stack = stack })

-- what an instruction's effect makes of the current frame and those below it
abbrev pub act : Program → MethodFrame → List Frame → Control → Memory × Effect → OrFault State
act program frame below control (memory, Goes offset locals stack) =
    at_offset frame offset locals stack >>= λ frame. Ok (state_of memory (Runs frame ∷ below) control)
act program frame below control (memory, Enters d receiver arguments stack) =
    enter program memory (waiting frame stack ∷ below) control d receiver arguments
act program frame below control (memory, Constructs d object instance arguments stack) =
    enter_init program memory (waiting frame stack ∷ below) control d object instance arguments
act program frame below control (memory, Leaves result) = leave memory frame below control result
act program frame below control (memory, Throws object) = throw program.world memory (Runs frame ∷ below) control object
act program frame below control (memory, Raises class) = raise program.world memory (Runs frame ∷ below) control class
act program frame below control (memory, Begins l) = begin program memory (Runs frame ∷ below) control l

abbrev pub context : Program → Memory → Control → MethodFrame → Instruction → Context
context program memory control frame insn = record {
  program = program;
  states = control.states;
  memory = memory;
  frame = frame;
  next = offset_behind frame.offset insn;
}

abbrev pub instruction_step : Program → Memory → MethodFrame → List Frame → Control → OrFault State
instruction_step program memory frame below control =
    found OffsetFault (instruction_at frame.method frame.offset) >>= λ insn.
    execute (context program memory control frame insn) insn >>= act program frame below control

abbrev pub step_in : Program → Memory → List Frame → Control → OrFault State
step_in program memory [] control = Ok (state_of memory [] control)
step_in program memory (Runs frame ∷ below) control = instruction_step program memory frame below control
step_in program memory (Initializes frame ∷ below) control = initialization_step program memory frame below control

abbrev pub step : Program → State → OrFault State
step program s = step_in program s.memory s.frames s.control

-- so many steps from a state, the last one outermost
abbrev pub after_steps : Program → ℕ → State → OrFault State
after_steps program zero s = Ok s
after_steps program (suc n) s = after_steps program n s >>= step program
