use Rattle.std.proofs.Common.{List, length}
use Rattle.jv_code.specs.Insns.{Instruction}
use Rattle.jv_code.proofs.StartLaws.{Search}
use Rattle.jv_code.proofs.code.Code.is_start.Given as goal

abbrev pub invariant-loop-rest : goal.invariant-loop-rest
invariant-loop-rest l = (before : List Instruction) × Search before l.self.bytes.now l.rest l.pc-2

abbrev pub decreases-loop-rest : goal.decreases-loop-rest
decreases-loop-rest l = length l.rest
