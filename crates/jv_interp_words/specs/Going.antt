-- Instructions that work on the words of their frame alone, and go on in it, or throw (JVMS 2.11, 6.5): what the machine does where they
-- are executed with no fault stands afterwards in the words and the registers.
use Rattle.std.specs.Prelude.{◌≡◌, ℕ, ◌+◌, ◌≤◌, ⊤, List, Ok, length}
use Rattle.jv_code.specs.Insns.{Instruction}
use Rattle.jv_meaning_machine.specs.Values.{Value, words_of_values}
use Rattle.jv_meaning_machine.specs.State.{Memory}
use Rattle.jv_meaning_machine.specs.Effects.{Effect, Context}
use Rattle.jv_meaning_machine.specs.Effects.Effect.{Goes, Raises}
use Rattle.jv_meaning_machine.specs.Instructions.{execute}
use Rattle.jv_interp_words.specs.declared.registers.Registers.{Registers}
use Rattle.jv_interp_words.specs.ValuesInWords.{AreAddresses}
use Rattle.jv_interp_words.specs.FramesInWords.{in_use, FrameStands}

-- An instruction is executed in a frame that stands in words, on others: what it does, where the registers tell its offset and the
-- place of the frame's words, and the next instruction's offset is known.
pub record Works (insn : Instruction) (next : ℕ) (at : Registers) (words : List ℕ) (c : Context) (addresses : List ℕ)
    (done : Memory × Effect) (below : List ℕ) : Type 0 where
  pub does : execute c insn ≡ Ok done
  pub frame : FrameStands addresses c.frame.locals c.frame.stack (in_use words at.top) below
  pub apart : AreAddresses addresses
  pub base_is : at.base ≡ length below
  pub pc_is : at.pc ≡ c.frame.offset
  pub next_is : next ≡ c.next
  pub top_within : at.top ≤ length words

-- What it leaves on the stack has room.
abbrev pub HasRoom : Context → List ℕ → ℕ → Memory × Effect → Type 0
HasRoom c below size (memory, Goes offset locals stack) = length below + length c.frame.locals + words_of_values stack ≤ size
HasRoom c below size _ = ⊤

-- The words and the registers stand for some such frame.
pub record CanWork (insn : Instruction) (next : ℕ) (at : Registers) (words : List ℕ) : Type 0 where
  pub c : Context
  pub addresses : List ℕ
  pub done : Memory × Effect
  pub below : List ℕ
  pub works : Works insn next at words c addresses done below
  pub room : HasRoom c below (length words) done

-- It left the memory as it is, and the frame goes on where the registers tell, and stands in these words.
pub record WentOn (c : Context) (addresses : List ℕ) (done : Memory × Effect) (below : List ℕ) (at : Registers) (words : List ℕ)
    : Type 0 where
  pub locals : List Value
  pub stack : List Value
  pub is : done ≡ (c.memory, Goes at.pc locals stack)
  pub count : length locals ≡ length c.frame.locals
  pub stand : FrameStands addresses locals stack (in_use words at.top) below

-- So it did for each frame that stood in the words and registers before.
abbrev pub GoesOn : Instruction → ℕ → Registers → List ℕ → Registers → List ℕ → Type 0
GoesOn insn next at words at_after words_after =
    (c : Context) (addresses : List ℕ) (done : Memory × Effect) (below : List ℕ) → Works insn next at words c addresses done below
    → WentOn c addresses done below at_after words_after

-- The machine throws an exception of a class, for each such frame, and does nothing else.
abbrev pub Throws : Instruction → ℕ → Registers → List ℕ → List ℕ → Type 0
Throws insn next at words class =
    (c : Context) (addresses : List ℕ) (done : Memory × Effect) (below : List ℕ) → Works insn next at words c addresses done below
    → done ≡ (c.memory, Raises class)

-- Only the offset and the number of words in use changed, and all those in use are there.
pub record StaysIn (at : Registers) (at_after : Registers) (words_after : List ℕ) : Type 0 where
  pub same : at_after ≡ record at { pc = at_after.pc; top = at_after.top }
  pub top_within : at_after.top ≤ length words_after
