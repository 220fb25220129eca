-- The operands of a division.
use Rattle.std.specs.Prelude.{ℕ}
use Rattle.jv_code.specs.declared.kinds.NumberKind.{NumberKind}
use Rattle.jv_code.specs.declared.kinds.NumberKind.TheVariants as numbers

-- the words of two numbers of a kind
abbrev pub operand_words : NumberKind → ℕ
operand_words numbers.Int = 2
operand_words numbers.Long = 4
