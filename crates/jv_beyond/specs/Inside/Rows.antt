-- The rows of a table of mnemonics.
use Rattle.std.specs.Borrow.{Bor}
use Rattle.std.specs.Prelude.{ℕ, List}

abbrev pub seen_row : ℕ × Bor (List ℕ) → ℕ × List ℕ
seen_row row = (row.0, row.1.now)
