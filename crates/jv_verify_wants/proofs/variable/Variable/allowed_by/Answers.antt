use Rattle.std.proofs.Common.{sym, ◌∙◌, ap}
use Rattle.std.specs.BTreeMap.{get_by}
use Rattle.jv_verify_wants.specs.Inside.Codes.{compare}
use Rattle.jv_verify_wants.proofs.variable.Variable.allowed_by.Goals as goal

pub returns-in-Some : goal.returns-in-Some
returns-in-Some c types offset is =
    is.others c.args.item c.in-Some.count.now (sym (c.in-Some.ensures.value ∙ ap (λ k. get_by (compare k) c.args.self.now.allowed) c.code.ensures))
