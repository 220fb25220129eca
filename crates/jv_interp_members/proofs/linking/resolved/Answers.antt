use Rattle.jv_meaning_typing.specs.MethodResolution.{resolve_method}
use Rattle.jv_link.specs.Seen.{seen_use}
use Rattle.jv_interp_members.proofs.Linked.{target_answered, error_answered}
use Rattle.jv_interp_members.proofs.linking.resolved.Goals as goal

pub returns-in-Ok-clause-found : goal.returns-in-Ok-clause-found
returns-in-Ok-clause-found c = λ s reference site operand.
    target_answered c.args.classes.now.world (resolve_method c.args.classes.now.world s (seen_use c.args.how) reference) c.in-Ok.called.target
    (c.in-Ok.ensures.found s reference site operand)

pub returns-in-Err-clause-found : goal.returns-in-Err-clause-found
returns-in-Err-clause-found c = λ s reference site operand.
    error_answered c.args.classes.now.world (resolve_method c.args.classes.now.world s (seen_use c.args.how) reference) c.in-Err.error
    c.number_of_error.result (c.in-Err.ensures.found s reference site operand)
    (c.number_of_error.ensures c.args.classes.now.world c.requires.guests)
