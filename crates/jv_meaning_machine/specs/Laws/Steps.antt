-- Laws of a step that executes an instruction (JVMS 2.11): what becomes of what the instruction did to the memory, and of its effect.
use Rattle.std.specs.Prelude.{◌≡◌, ℕ, true, List, ◌∷◌, Some, Ok, nat_le}
use Rattle.jv_code.specs.Insns.{Instruction}
use Rattle.jv_meaning_typing.specs.Environment.{instruction_at}
use Rattle.jv_meaning_machine.specs.Values.{Value, words_of_values}
use Rattle.jv_meaning_machine.specs.Frames.{MethodFrame, Frame}
use Rattle.jv_meaning_machine.specs.Frames.Frame.{Runs}
use Rattle.jv_meaning_machine.specs.State.{Program, Memory, State, state_of}
use Rattle.jv_meaning_machine.specs.Effects.{Effect, Context, world_at}
use Rattle.jv_meaning_machine.specs.Effects.Effect.{Goes}
use Rattle.jv_meaning_machine.specs.Instructions.{execute}
use Rattle.jv_meaning_machine.specs.Step.{context, act, step}
use Rattle.jv_meaning_machine.specs.Laws.Kept.{Keeps}

-- In a state an instruction of the current method is next, and executed it does this to the memory, with an effect.
pub record Executes (program : Program) (s : State) (memory : Memory) (effect : Effect) : Type 0 where
  pub frame : MethodFrame
  pub below : List Frame
  pub frames : s.frames ≡ Runs frame ∷ below
  pub insn : Instruction
  pub stands : instruction_at frame.method frame.offset ≡ Some insn
  pub does : execute (context program s.memory s.control frame insn) insn ≡ Ok (memory, effect)

-- The step is what the machine does with that memory and that effect, and nothing else.
abbrev pub StepActs : Type 0
StepActs =
    (program : Program) (s : State) (memory : Memory) (effect : Effect) → (h : Executes program s memory effect)
    → step program s ≡ act program h.frame h.below s.control (memory, effect)

-- Where it goes on, the next state has that memory, and the frame has the local variables and the stack that the effect names,
-- which is within max_stack; all else is as it was.
abbrev pub StepGoesOn : Type 0
StepGoesOn =
    (program : Program) (s next : State) (memory : Memory) (offset : ℕ) (locals stack : List Value)
    → (h : Executes program s memory (Goes offset locals stack)) → step program s ≡ Ok next
    → (nat_le (words_of_values stack) h.frame.method.code.max_stack ≡ true)
    × (next ≡ state_of memory (Runs (record h.frame { offset = offset; locals = locals; stack = stack }) ∷ h.below) s.control)

-- Whatever the effect is, what `Keeps` names stays from that memory to the next state's: output, shapes and budgets, not values.
abbrev pub OutcomeStays : Type 0
OutcomeStays =
    (program : Program) (s next : State) (memory : Memory) (effect : Effect) → Executes program s memory effect → step program s ≡ Ok next
    → Keeps program.world memory next.memory

-- And so it stays over what an instruction does to the memory.
abbrev pub ExecutionKeeps : Type 0
ExecutionKeeps =
    (c : Context) (insn : Instruction) (memory : Memory) (effect : Effect) → execute c insn ≡ Ok (memory, effect)
    → Keeps (world_at c) c.memory memory
