use Rattle.std.proofs.Common.{◌≡◌, ℕ, ◌<◌, ◌≤◌, ◌||◌, ◌&&◌, length, get_or, false}
use Rattle.std.specs.List.{All}
use Rattle.jv_classes.specs.Ways.{related}
use Rattle.jv_classes.specs.Inside.Steps.{rows_of}
use Rattle.jv_classes.proofs.relation.join_rows.Given as goal

abbrev pub invariant-loop-row : goal.invariant-loop-row
invariant-loop-row l =
    All (λ row. length row.items ≡ length l.other) l.rows
    × ((from to : ℕ) → from < l.row-index → related (rows_of l.rows) from to ≡ (related (rows_of l.fn.rows) from to || (related (rows_of l.fn.rows) from l.by && get_or l.other to false)))
    × ((from to : ℕ) → l.row-index ≤ from → related (rows_of l.rows) from to ≡ related (rows_of l.fn.rows) from to)
