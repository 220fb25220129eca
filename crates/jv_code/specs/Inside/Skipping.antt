-- Passing over an instruction.
use Rattle.std.specs.Prelude.{◌≡◌, ◌≤◌, ℕ, List, length, drop, Option, Some, None, get_or}
use Rattle.std.specs.Borrow.{Bor}
use Rattle.jv_code.specs.declared.skipping.TheConstants.{SIZES}
use Rattle.jv_code.specs.Insns.{Instruction}
use Rattle.jv_code.specs.Inside.Reading.{insn_read}

-- how many bytes an instruction with an opcode takes, as the code's table has it; 0 where the opcode alone doesn't tell it
abbrev pub size_at : ℕ → ℕ
size_at opcode = get_or SIZES opcode 0

-- an instruction is read at the front, and takes so many bytes
abbrev pub HasSize : ℕ → List ℕ → ℕ → Type 0
HasSize at bytes size = (size ≤ length bytes) × (i : Instruction) × (insn_read at bytes ≡ Some (i, drop size bytes))

-- What a function found behind the instruction at the front is what follows the one that is read there.
abbrev pub PassesOver : Option (Instruction × List ℕ) → Option (Bor (List ℕ)) → Type 0
PassesOver read None = read ≡ None
PassesOver read (Some rest) = (i : Instruction) × (read ≡ Some (i, rest.now))
