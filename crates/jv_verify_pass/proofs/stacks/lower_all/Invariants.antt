use Rattle.std.proofs.Common.{◌≡◌, map, take, drop, ◌++◌}
use Rattle.jv_verify_pass.specs.Inside.Stacks.{lowered}
use Rattle.jv_verify_pass.proofs.stacks.lower_all.Given as goal

abbrev pub invariant-loop-stack : goal.invariant-loop-stack
invariant-loop-stack l = l.stacks ≡ map (lowered l.stayed) (take l.stack-index l.fn.stacks) ++ drop l.stack-index l.fn.stacks
