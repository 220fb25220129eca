use Rattle.std.proofs.Common.{◌≡◌, length}
use Rattle.std.specs.List.{All}
use Rattle.jv_classes.specs.Inside.Steps.{rows_of}
use Rattle.jv_classes.proofs.RelationWays.{Closing}
use Rattle.jv_classes.proofs.relation.close_rows.Given as goal

abbrev pub invariant-loop-by : goal.invariant-loop-by
invariant-loop-by l =
    (length l.rows ≡ length l.fn.rows) × (length l.other ≡ length l.fn.rows) × All (λ row. length row.items ≡ length l.fn.rows) l.rows × Closing (rows_of l.fn.rows) (rows_of l.rows) l.by
