-- The opcodes of the instructions at which a step is taken in words (JVMS 6.5): they work on the words of their frame alone, and throw
-- nothing. lookupswitch, wide and goto_w do so too, and are decoded: a search in the loop of these steps would make each of them dearer.
use Rattle.std.specs.Prelude.{ℕ, Bool, ◌||◌}
use Rattle.jv_format.specs.Numbers.{is_from_to}

-- nop, aconst_null, iconst_m1 to iconst_5, lconst_0, lconst_1; bipush, sipush
abbrev pub pushes_constant : ℕ → Bool
pushes_constant opcode = is_from_to 0 10 opcode || is_from_to 16 17 opcode

-- iload, lload; aload, and iload_0 to lload_3; aload_0 to aload_3
abbrev pub loads_local : ℕ → Bool
loads_local opcode = is_from_to 21 22 opcode || (is_from_to 25 33 opcode || is_from_to 42 45 opcode)

-- istore, lstore; astore, and istore_0 to lstore_3; astore_0 to astore_3
abbrev pub stores_local : ℕ → Bool
stores_local opcode = is_from_to 54 55 opcode || (is_from_to 58 66 opcode || is_from_to 75 78 opcode)

-- pop to swap, and iadd, ladd; isub, lsub; imul, lmul; ineg, lneg; ishl to lxor, iinc, i2l; l2i; i2b, i2c, i2s, lcmp
abbrev pub computes_alone : ℕ → Bool
computes_alone opcode =
    is_from_to 87 97 opcode || (is_from_to 100 101 opcode || (is_from_to 104 105 opcode || (is_from_to 116 117 opcode
    || (is_from_to 120 133 opcode || (is_from_to 136 136 opcode || is_from_to 145 148 opcode)))))

-- ifeq to if_acmpne, goto; tableswitch; ifnull, ifnonnull
abbrev pub branches_alone : ℕ → Bool
branches_alone opcode = is_from_to 153 167 opcode || (is_from_to 170 170 opcode || is_from_to 198 199 opcode)

-- All of these: 97.
abbrev pub works_alone : ℕ → Bool
works_alone opcode =
    pushes_constant opcode || (loads_local opcode || (stores_local opcode || (computes_alone opcode || branches_alone opcode)))
