use Rattle.std.specs.List.{All}
use Rattle.jv_link_cache.specs.Inside.Rows.{IsEmptyRow}
use Rattle.jv_link_cache.proofs.places.selection_rows.Given as goal

abbrev pub invariant-loop : goal.invariant-loop
invariant-loop g l = All (IsEmptyRow l.empty) l.rows.items
