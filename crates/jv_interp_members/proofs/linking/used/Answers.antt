use Rattle.jv_meaning_typing.specs.FieldResolution.{resolve_field}
use Rattle.jv_link.specs.Seen.{seen_use}
use Rattle.jv_interp_members.proofs.Linked.{field_answered, error_answered}
use Rattle.jv_interp_members.proofs.linking.used.Goals as goal

pub returns-in-Ok-clause-found : goal.returns-in-Ok-clause-found
returns-in-Ok-clause-found c = λ s reference site operand.
    field_answered c.args.classes.now.world (resolve_field c.args.classes.now.world s (seen_use c.args.how) reference) c.in-Ok.used
    (c.in-Ok.ensures.found s reference site operand)

pub returns-in-Err-clause-found : goal.returns-in-Err-clause-found
returns-in-Err-clause-found c = λ s reference site operand.
    error_answered c.args.classes.now.world (resolve_field c.args.classes.now.world s (seen_use c.args.how) reference) c.in-Err.error
    c.number_of_error.result (c.in-Err.ensures.found s reference site operand)
    (c.number_of_error.ensures c.args.classes.now.world c.requires.guests)
