use Rattle.jv_pool.specs.Rules.{NamesClass}
use Rattle.jv_pool.specs.Constants.{utf8_at}
use Rattle.jv_pool.proofs.Kept.{if_known, if_unknown}
use Rattle.jv_pool.proofs.rules.is_class.Goals as goal

pub returns-in-Some : goal.returns-in-Some
returns-in-Some c = if_known NamesClass (utf8_at c.args.known.now c.args.name) c.in-Some.facts _ c.in-Some.ensures (λ t known. known.names_class)

pub returns-in-None : goal.returns-in-None
returns-in-None c = if_unknown NamesClass (utf8_at c.args.known.now c.args.name) c.in-None.ensures
