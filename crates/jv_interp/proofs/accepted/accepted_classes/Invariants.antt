use Rattle.std.proofs.Common.{◌≡◌, take}
use Rattle.jv_interp.specs.VerifiedClasses.{accepted_by}
use Rattle.jv_interp.proofs.accepted.accepted_classes.Given as goal

abbrev pub invariant-loop-file : goal.invariant-loop-file
invariant-loop-file l = l.flags.items ≡ accepted_by l.verified.host (take l.file l.verified.verdicts)
