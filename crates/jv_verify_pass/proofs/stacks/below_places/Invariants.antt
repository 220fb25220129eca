use Rattle.std.proofs.Common.{◌≡◌, drop}
use Rattle.jv_verify_pass.specs.Inside.Objects.{below_places}
use Rattle.jv_verify_pass.proofs.stacks.below_places.Given as goal

abbrev pub invariant-loop-k : goal.invariant-loop-k
invariant-loop-k l = below_places l.objects (drop l.k l.places) l.left ≡ below_places l.objects l.places l.lowest
