use Rattle.std.specs.Prelude.{◌≡◌}
use Rattle.std.specs.List.{All}
use Rattle.jv_link_cache.proofs.rows.row_of.Given as goal

abbrev pub invariant-loop : goal.invariant-loop
invariant-loop g l = All (λ entry. entry ≡ l.empty) l.entries.items
