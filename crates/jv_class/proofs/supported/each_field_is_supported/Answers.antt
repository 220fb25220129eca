use Rattle.std.proofs.Common.{rules, tests}
use Rattle.std.proofs.lemmas.Iterator.{YieldsList-from_slice}
use Rattle.jv_class.specs.Inside.Shown.{IsFieldShownSupported}
use Rattle.jv_class_structure.specs.Seen.{seen_field}
use Rattle.jv_class.proofs.Each.{decided}
use Rattle.jv_class.proofs.supported.each_field_is_supported.Goals as goal

pub returns : goal.returns
returns c = decided _ _ (λ x. IsFieldShownSupported c.args.pool.now (seen_field x)) c.all.ensures.ran
    (YieldsList-from_slice c.args.fields.now c.iter.ensures.rest) (λ x q k. search (rules, tests)) (λ x q k. search (rules, tests))
