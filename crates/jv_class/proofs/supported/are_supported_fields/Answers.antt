use Rattle.jv_class.specs.Inside.Shown.{IsFieldShownSupported}
use Rattle.jv_class_structure.specs.Seen.{seen_field}
use Rattle.jv_class.proofs.Kept.{all_mapped}
use Rattle.jv_class.proofs.supported.are_supported_fields.Goals as goal

pub returns : goal.returns
returns c =
    let seen = all_mapped (IsFieldShownSupported c.args.pool.now) seen_field c.args.fields.now in
    (λ on. seen.0 (c.each_field_is_supported.ensures.0 on), λ all. c.each_field_is_supported.ensures.1 (seen.1 all))
