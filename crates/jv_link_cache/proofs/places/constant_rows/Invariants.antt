use Rattle.std.specs.List.{All}
use Rattle.jv_link_cache.specs.Inside.Rows.{IsEmptyRow}
use Rattle.jv_link_cache.proofs.places.constant_rows.Given as goal

abbrev pub invariant-loop-class : goal.invariant-loop-class
invariant-loop-class g l = All (IsEmptyRow l.empty) l.rows.items
