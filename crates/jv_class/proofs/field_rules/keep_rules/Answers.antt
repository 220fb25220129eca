use Rattle.jv_class.specs.Inside.Shown.{KeepsFieldShown}
use Rattle.jv_class_structure.specs.Seen.{seen_field}
use Rattle.jv_class.proofs.Kept.{all_mapped}
use Rattle.jv_class.proofs.field_rules.keep_rules.Goals as goal

pub returns : goal.returns
returns c =
    let seen = all_mapped (KeepsFieldShown c.args.pool.now c.args.class_flags.0) seen_field c.args.fields.now in
    (λ on. seen.0 (c.each_keeps_rules.ensures.0 on), λ all. c.each_keeps_rules.ensures.1 (seen.1 all))
