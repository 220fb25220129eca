use Rattle.std.proofs.Common.{◌≡◌, map, take, drop, ◌++◌}
use Rattle.jv_verify_pass.specs.Inside.Stacks.{lowered_below}
use Rattle.jv_verify_pass.proofs.stacks.lower_below.Given as goal

abbrev pub invariant-loop-stack : goal.invariant-loop-stack
invariant-loop-stack l = l.stacks ≡ map (lowered_below l.places) (take l.stack-index l.fn.stacks) ++ drop l.stack-index l.fn.stacks
