use Rattle.std.proofs.lemmas.Grind.{common_steps, elements}
use Rattle.std.proofs.Common.{arith}
use Rattle.jv_code.proofs.starts.Starts.new.Goals as goal

pub mark_starts-requires-clause-blank : goal.mark_starts-requires-clause-blank
mark_starts-requires-clause-blank c = grind (arith, elements)

pub invariant_of-result : goal.invariant_of-result
invariant_of-result c = grind (arith, common_steps)
