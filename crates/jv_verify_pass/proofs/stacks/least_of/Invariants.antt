use Rattle.std.proofs.Common.{◌≡◌, drop}
use Rattle.jv_verify_pass.specs.Inside.Objects.{least_of}
use Rattle.jv_verify_pass.proofs.stacks.least_of.Given as goal

abbrev pub invariant-loop-k : goal.invariant-loop-k
invariant-loop-k l = least_of l.least (drop l.k l.places) ≡ least_of 65535 l.places
