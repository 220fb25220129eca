use Rattle.std.proofs.Common.{arith}
use Rattle.jv_interp_objects.proofs.CountsTaken.{all_fit}
use Rattle.jv_interp_objects.proofs.multiple.has_negative.Goals as goal

pub returns-clause-words : goal.returns-clause-words
returns-clause-words c = all_fit c.args.counts.now (λ k. let f = c.type_inv.counts k in omega (arith, f))
