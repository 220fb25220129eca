use Rattle.std.proofs.Common.{◌≡◌}
use Rattle.jv_closed.specs.There.{constants_are_there}
use Rattle.jv_closed.proofs.constants.has_constants.Given as goal

abbrev pub invariant-loop-index : goal.invariant-loop-index
invariant-loop-index l = l.all ≡ constants_are_there l.table l.pool l.index
