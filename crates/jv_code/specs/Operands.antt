-- Reading an instruction by its opcode, and its operands behind that (JVMS 6.5).
use Rattle.std.specs.Prelude.{◌≡◌, ℕ, ◌+◌, Bool, ◌||◌, List, ◌++◌, length, drop, nat_le, ◌==◌, ◌&&◌, if◌then◌else◌, IsTrue}
use Rattle.jv_code.specs.Insns.{Instruction, insn_bytes, insn_fits}
use Rattle.jv_code.specs.Places.{IsAt, IsStart}

-- these bytes stand at an offset
abbrev pub HasBytes : List ℕ → ℕ → List ℕ → Type 0
HasBytes bytes at part = (rest : List ℕ) × (drop at bytes ≡ part ++ rest)

-- bipush, ldc, iload to aload, istore to astore, newarray: one byte behind the opcode
abbrev pub has_byte : ℕ → Bool
has_byte opcode =
    opcode == 16 || (opcode == 18 || ((nat_le 21 opcode && nat_le opcode 25) || ((nat_le 54 opcode && nat_le opcode 58) || opcode == 188)))

-- sipush, ldc_w, ldc2_w, iinc, ifeq to goto, getstatic to invokestatic, new, anewarray, checkcast, instanceof, ifnull, ifnonnull: two bytes
abbrev pub has_half : ℕ → Bool
has_half opcode =
    opcode == 17 || (opcode == 19
    || (opcode == 20 || (opcode == 132 || ((nat_le 153 opcode && nat_le opcode 167) || ((nat_le 178 opcode && nat_le opcode 184)
    || (opcode == 187 || (opcode == 189 || (opcode == 192 || (opcode == 193 || (opcode == 198 || opcode == 199))))))))))

-- how many bytes of operands an instruction with an opcode has at least
abbrev pub least_operands : ℕ → ℕ
least_operands opcode =
    if has_byte opcode then 1 else if has_half opcode then 2 else if opcode == 197 then 3 else if opcode == 185
    || opcode == 200 then 4 else 0

-- ---- laws

-- What is spelled where an instruction starts is the instruction there.
abbrev pub StandsAsSpelled : Type 0
StandsAsSpelled =
    (bytes : List ℕ) (pc : ℕ) (i : Instruction) → IsStart bytes pc → HasBytes bytes pc (insn_bytes i) → IsTrue (insn_fits pc i)
    → IsAt bytes pc i

-- Bytes at an offset and those behind them are bytes at that offset.
abbrev pub BytesJoin : Type 0
BytesJoin = (bytes : List ℕ) (at : ℕ) (a b : List ℕ) → HasBytes bytes at a → HasBytes bytes (at + length a) b → HasBytes bytes at (a ++ b)
