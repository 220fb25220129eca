use Rattle.std.proofs.Common.{Bool, ◌&&◌, ◌↔◌, IsTrue, refl, sym, subst}
use Rattle.std.specs.List.{list_all}
use Rattle.jv_format.specs.Handlers.{handlers_of}
use Rattle.jv_meaning_typing.specs.Typing.{catches_throwable, HandlersKeepRules}
use Rattle.jv_verify_pass.proofs.CaughtTypes.{handlers_keep_rules, with_constants}
use Rattle.jv_verify_pass.proofs.catching.handlers_hold.Goals as goal

pub returns-then-handlers_fit : goal.returns-then-handlers_fit
returns-then-handlers_fit c = λ env has.
    let table = handlers_of c.args.handlers in
    subst (λ (b : Bool). IsTrue (b && c.catch_throwables.result) ↔ HandlersKeepRules env) c.if-handlers_fit.true
    (handlers_keep_rules c.args.constants.now c.args.starts.now table c.handlers_fit.result c.catch_throwables.result env has c.handlers_fit.ensures
    (c.catch_throwables.ensures env (with_constants c.args.constants.now c.args.starts.now table env has)))

pub returns-else-handlers_fit : goal.returns-else-handlers_fit
returns-else-handlers_fit c = λ env has.
    let table = handlers_of c.args.handlers in
    let all = list_all (catches_throwable env) table in
    subst (λ (b : Bool). IsTrue b ↔ HandlersKeepRules env) (sym c.if-handlers_fit.false)
    (subst (λ (b : Bool). IsTrue (b && all) ↔ HandlersKeepRules env) c.if-handlers_fit.false
    (handlers_keep_rules c.args.constants.now c.args.starts.now table c.handlers_fit.result all env has c.handlers_fit.ensures refl))
