use Rattle.jv_class.specs.Rules.{IsClassAt}
use Rattle.jv_class_structure.specs.Seen.{seen_index}
use Rattle.jv_class.proofs.Kept.{all_mapped}
use Rattle.jv_class.proofs.class_rules.are_classes.Goals as goal

pub returns : goal.returns
returns c =
    let seen = all_mapped (IsClassAt c.args.pool.now) seen_index c.args.interfaces.now in
    (λ on. seen.0 (c.each_is_class.ensures.0 on), λ all. c.each_is_class.ensures.1 (seen.1 all))
