use Rattle.std.specs.Prelude.{◌+◌, ◌-◌, length}
use Rattle.jv_link_cache.specs.Inside.Rows.{IsReached}
use Rattle.jv_link_cache.proofs.rows.reach.Given as goal

abbrev pub invariant-loop-empty : goal.invariant-loop-empty
invariant-loop-empty g l = IsReached l.empty l.fn.row l.row

abbrev pub decreases-loop-empty : goal.decreases-loop-empty
decreases-loop-empty g l = l.place + 1 - length l.row.entries.items
