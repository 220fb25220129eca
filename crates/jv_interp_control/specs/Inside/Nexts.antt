-- The instruction behind that of a method that waits (JVMS 2.6.4).
use Rattle.std.specs.Prelude.{◌≡◌, ℕ, List, [], ◌∷◌, Some, length}
use Rattle.jv_code.specs.Insns.{Instruction, insn_bytes}
use Rattle.jv_code.specs.Operands.{HasBytes}
use Rattle.jv_code.specs.Places.{IsAt}
use Rattle.jv_meaning_typing.specs.Environment.{instruction_at, offset_behind}
use Rattle.jv_meaning_machine.specs.Frames.{MethodFrame}
use Rattle.jv_meaning_machine.specs.State.{Program}
use Rattle.jv_meaning_machine.specs.Alone.{FindsInstructions}
use Rattle.jv_interp_words.specs.declared.records.MethodRecord.{MethodRecord}
use Rattle.jv_interp_words.specs.FramesInWords.{MethodStands}
use Rattle.jv_interp_members.specs.declared.methods.Methods.{Methods}
use Rattle.jv_interp_members.specs.Methods.{AreMethods}

-- it stands at this instruction
pub record Nexts (methods : Methods) (own : MethodRecord) (program : Program) (addresses : List ℕ) (frame : MethodFrame)
    (used below : List ℕ) (insn : Instruction) : Type 0 where
  pub are : AreMethods program.world methods
  pub finds : FindsInstructions program.instructions
  pub stands : MethodStands program addresses frame own used below
  pub at : instruction_at frame.method frame.offset ≡ Some insn

pub record HasNext (methods : Methods) (own : MethodRecord) : Type 0 where
  pub program : Program
  pub addresses : List ℕ
  pub frame : MethodFrame
  pub used : List ℕ
  pub below : List ℕ
  pub insn : Instruction
  pub nexts : Nexts methods own program addresses frame used below insn

abbrev pub IsNext : Methods → MethodRecord → ℕ → Type 0
IsNext methods own next =
    (program : Program) (addresses : List ℕ) (frame : MethodFrame) (used below : List ℕ) (insn : Instruction)
    → Nexts methods own program addresses frame used below insn → next ≡ offset_behind frame.offset insn

-- Each instruction with this opcode has so many bytes (6.5).
abbrev pub HasSize : ℕ → ℕ → Type 0
HasSize opcode size =
    (bytes : List ℕ) (pc : ℕ) (i : Instruction) → IsAt bytes pc i → HasBytes bytes pc (opcode ∷ []) → size ≡ length (insn_bytes i)
