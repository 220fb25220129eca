use Rattle.jv_pool.specs.Rules.{IsUnqualified}
use Rattle.jv_pool.specs.Constants.{utf8_at}
use Rattle.jv_pool.proofs.Kept.{if_known, if_unknown, same_test}
use Rattle.jv_pool.proofs.rules.is_unqualified_at.Goals as goal

pub returns-in-Some : goal.returns-in-Some
returns-in-Some c = if_known IsUnqualified (utf8_at c.args.known.now c.args.name) c.in-Some.facts _ c.in-Some.ensures (λ t known. same_test _ _ known.unqualified)

pub returns-in-None : goal.returns-in-None
returns-in-None c = if_unknown IsUnqualified (utf8_at c.args.known.now c.args.name) c.in-None.ensures
