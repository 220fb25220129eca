use Rattle.std.proofs.Common.{◌≡◌, take}
use Rattle.jv_link_handlers.specs.Inside.Finding.{placed_from}
use Rattle.jv_link_handlers.proofs.placed.placed_of.Given as goal

abbrev pub invariant-loop-k : goal.invariant-loop-k
invariant-loop-k l = l.placed.items ≡ placed_from 0 (take l.k l.reaches)
