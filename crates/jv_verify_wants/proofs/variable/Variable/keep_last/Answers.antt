use Rattle.std.proofs.Common.{◌∙◌, ap, cond, refl, Some}
use Rattle.std.specs.BTreeMap.{is_at}
use Rattle.jv_verify_wants.specs.Inside.Codes.{code, compare}
use Rattle.jv_verify_wants.specs.Inside.Allowed.{kept_of, remembered}
use Rattle.jv_verify_wants.proofs.Allowed.{kept_with_others}
use Rattle.jv_verify_wants.proofs.variable.Variable.keep_last.Goals as goal

pub returns-clause-allowed : goal.returns-clause-allowed
returns-clause-allowed c types offset is =
    kept_with_others types offset (kept_of c.args.self.now) _ refl refl refl
    (λ item.
    c.in_ok-insert.ensures.updates.0 (code item)
    ∙ ap (λ k. cond (is_at (compare k) (code item)) (Some c.in-Ok.count) (remembered c.args.self.now.allowed.entries item)) c.code.ensures
    ∙ ap (λ n. cond (is_at (compare (code c.args.self.now.last)) (code item)) (Some n) (remembered c.args.self.now.allowed.entries item)) c.in-Ok.ensures.1)
    is
