-- Code that goes beyond the profile: instructions of the profile, and then one of the instructions of floating point
-- numbers, monitors, dynamic calls and their kin that the JVMS has and the profile leaves out (own). jsr, ret, jsr_w and
-- the opcodes from 202 on are ill formed and not among them (JVMS 4.9.1, 6.5).
use Rattle.std.specs.Prelude.{◌≡◌, ℕ, Bool, false, ◌&&◌, ◌||◌, List, [], ◌∷◌, ◌++◌, length, IsTrue, ◌==◌}
use Rattle.std.specs.List.{flat_map}
use Rattle.jv_format.specs.Numbers.{is_from_to}
use Rattle.jv_code.specs.Insns.{Instruction, insn_bytes}
use Rattle.jv_code.specs.Places.{all_fit, IsCode}

-- fconst_0 to dconst_1; fload, dload and those with the local in the opcode; faload, daload; the stores
abbrev pub moves_floats : ℕ → Bool
moves_floats opcode =
    is_from_to 11 15 opcode || (is_from_to 23 24 opcode || (is_from_to 34 41 opcode || (is_from_to 48 49 opcode
    || (is_from_to 56 57 opcode || (is_from_to 67 74 opcode || is_from_to 81 82 opcode)))))

-- fadd, dadd; fsub, dsub; fmul, dmul; fdiv, ddiv; frem, drem; fneg, dneg; i2f, i2d; l2f to f2l; f2d to d2f; fcmpl to dcmpg; freturn,
-- dreturn
abbrev pub computes_floats : ℕ → Bool
computes_floats opcode =
    is_from_to 98 99 opcode || (is_from_to 102 103 opcode || (is_from_to 106 107 opcode || (is_from_to 110 111 opcode
    || (is_from_to 114 115 opcode || (is_from_to 118 119 opcode || (is_from_to 134 135 opcode || (is_from_to 137 144 opcode
    || (is_from_to 149 152 opcode || is_from_to 174 175 opcode))))))))

-- the opcodes of float and double, of invokedynamic (186), and of monitorenter and monitorexit (194, 195)
abbrev pub is_unsupported : ℕ → Bool
is_unsupported opcode = moves_floats opcode || (computes_floats opcode || (opcode == 186 || is_from_to 194 195 opcode))

-- newarray (188) of float or double
abbrev pub makes_floats : ℕ → ℕ → Bool
makes_floats opcode code = opcode == 188 && (code == 6 || code == 7)

-- fload, dload, fstore and dstore behind wide (196)
abbrev pub is_wide_float : ℕ → ℕ → Bool
is_wide_float opcode next = opcode == 196 && (next == 23 || (next == 24 || (next == 56 || next == 57)))

abbrev pub front_unsupported : List ℕ → Bool
front_unsupported [] = false
front_unsupported (opcode ∷ []) = is_unsupported opcode
front_unsupported (opcode ∷ next ∷ rest) = is_unsupported opcode || (makes_floats opcode next || is_wide_float opcode next)

-- Instructions of the profile, and then one that it leaves out, of which no more is looked at than what tells it.
pub record IsUnsupported (bytes : List ℕ) : Type 0 where
  pub before : List Instruction
  pub rest : List ℕ
  pub spelled : bytes ≡ flat_map insn_bytes before ++ rest
  pub fit : IsTrue (all_fit 0 before)
  pub front : IsTrue (front_unsupported rest)

-- and at which offset that one stands: the sum of the lengths before it
pub record IsUnsupportedAt (bytes : List ℕ) (offset : ℕ) : Type 0 where
  pub is : IsUnsupported bytes
  pub place : offset ≡ length (flat_map insn_bytes is.before)

-- A law: code has nothing outside the profile.
abbrev pub CodeIsSupported : Type 0
CodeIsSupported = (bytes : List ℕ) (insns : List Instruction) → IsCode bytes insns → IsUnsupported bytes → ⊥
