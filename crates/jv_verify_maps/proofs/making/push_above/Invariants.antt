use Rattle.jv_verify_maps.specs.Inside.Made.{IsLaying}
use Rattle.jv_verify_maps.proofs.making.push_above.Given as goal

abbrev pub invariant-loop-left : goal.invariant-loop-left
invariant-loop-left l = IsLaying l.types l.map.locals l.fn.above l.left l.entries l.initial.words.items l.words.items l.laid

abbrev pub decreases-loop-left : goal.decreases-loop-left
decreases-loop-left l = l.left
