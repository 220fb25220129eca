use Rattle.std.proofs.lemmas.Grind.{common_steps}
use Rattle.std.proofs.Common.{rules, arith}
use Rattle.jv_stackmap.proofs.reading.begin_extended.Goals as goal

pub returns-then-chop : goal.returns-then-chop
returns-then-chop c = search rules

pub returns-else-chop : goal.returns-else-chop
returns-else-chop c = search rules

pub returns-in_err-rest : goal.returns-in_err-rest
returns-in_err-rest c = grind (arith, common_steps)
