-- How wide what stands in an array of numbers is (JVMS 2.6.1, 6.5).
use Rattle.std.specs.Prelude.{ℕ}
use Rattle.jv_code.specs.declared.kinds.NumberElement.{NumberElement}
use Rattle.jv_code.specs.declared.kinds.NumberElement.TheVariants as numbers

-- two words for a long, one for all others
abbrev pub number_words : NumberElement → ℕ
number_words numbers.Long = 2
number_words _ = 1
