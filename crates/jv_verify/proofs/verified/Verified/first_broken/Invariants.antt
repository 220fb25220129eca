use Rattle.jv_verify.specs.Files.{AreAcceptedBelow}
use Rattle.jv_verify.proofs.verified.Verified.first_broken.Given as goal

abbrev pub invariant-loop-class : goal.invariant-loop-class
invariant-loop-class l = AreAcceptedBelow l.self.world l.class
