use Rattle.std.proofs.Common.{◌≡◌, ℕ, [], length, get_or, take}
use Rattle.std.specs.List.{list_any}
use Rattle.jv_classes.specs.Ways.{related, is_there}
use Rattle.jv_classes.specs.Inside.Rows.{numbers_of}
use Rattle.jv_classes.proofs.table.related_to.Given as goal

abbrev pub invariant-loop-from : goal.invariant-loop-from
invariant-loop-from l =
    (length l.relation ≡ length l.rows) × ((a b : ℕ) → related l.relation a b ≡ list_any (is_there b) (get_or (take l.from (numbers_of l.rows)) a []))
