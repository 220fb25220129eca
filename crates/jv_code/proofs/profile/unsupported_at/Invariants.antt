use Rattle.std.proofs.Common.{List, length}
use Rattle.jv_code.specs.Insns.{Instruction}
use Rattle.jv_code.proofs.Fronts.{Front}
use Rattle.jv_code.proofs.profile.unsupported_at.Given as goal

abbrev pub invariant-loop-after : goal.invariant-loop-after
invariant-loop-after l = (before : List Instruction) × Front before l.bytes l.rest

abbrev pub decreases-loop-after : goal.decreases-loop-after
decreases-loop-after l = length l.rest
