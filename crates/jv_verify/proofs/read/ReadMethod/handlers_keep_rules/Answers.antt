use Rattle.std.proofs.Common.{◌≡◌, ◌↔◌, subst}
use Rattle.std.specs.Prelude.{IsTrue}
use Rattle.jv_class_structure.specs.Seen.{seen_code}
use Rattle.jv_meaning_typing.specs.Environment.{Environment}
use Rattle.jv_meaning_typing.specs.Typing.{HandlersKeepRules}
use Rattle.jv_verify.specs.Inside.Read.{ReadMethod, IsOfRead}
use Rattle.jv_verify.proofs.Parts.{same_constants, has_handlers}
use Rattle.jv_verify.proofs.read.ReadMethod.handlers_keep_rules.Goals as goal

pub returns : goal.returns
returns c =
    let inside : ReadMethod =
    record { class = c.self.inside.class.now; body = seen_code c.self.inside.body.now; initial = c.self.inside.initial.now; is_init = c.self.inside.is_init; result = c.self.inside.result } in
    subst (λ (m : ReadMethod). c.args.starts.now ≡ m.body.code → (env : Environment) → IsOfRead m env → IsTrue c.handlers_hold.result ↔ HandlersKeepRules env) c.self.view_is
    (λ same env of. c.handlers_hold.ensures env (has_handlers inside c.constants.result.now c.args.starts.now env of
    (same_constants inside c.constants.result.now c.constants.ensures.types c.constants.ensures.pool) same))
    c.requires
