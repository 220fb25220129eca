use Rattle.std.proofs.Common.{sym, subst}
use Rattle.jv_verify_types.specs.Numbered.{frame_of}
use Rattle.jv_verify_types.specs.Outcomes.{IsOutcome}
use Rattle.jv_verify_rules.proofs.NamedTypes.{accessed_as}
use Rattle.jv_verify_rules.proofs.field_access.access_field.Goals as goal

pub returns : goal.returns
returns c = λ env named is.
    let names = c.args.types.now.names in
    subst (λ o. IsOutcome names o c.access_by.new.frame c.access_by.result)
    (sym (accessed_as c.args.types.now env named c.args.field is c.args.access (frame_of names c.args.frame.now))) c.access_by.ensures
