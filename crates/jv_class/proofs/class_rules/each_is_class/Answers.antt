use Rattle.std.proofs.Common.{rules, tests}
use Rattle.std.proofs.lemmas.Iterator.{YieldsList-from_slice}
use Rattle.jv_class.specs.Rules.{IsClassAt}
use Rattle.jv_class_structure.specs.Seen.{seen_index}
use Rattle.jv_class.proofs.Each.{decided}
use Rattle.jv_class.proofs.class_rules.each_is_class.Goals as goal

pub returns : goal.returns
returns c = decided _ _ (λ x. IsClassAt c.args.pool.now (seen_index x)) c.all.ensures.ran
    (YieldsList-from_slice c.args.interfaces.now c.iter.ensures.rest) (λ x q k. search (rules, tests)) (λ x q k. search (rules, tests))
