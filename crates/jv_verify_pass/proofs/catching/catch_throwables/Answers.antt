use Rattle.std.proofs.Common.{sym, ◌∙◌}
use Rattle.jv_format.specs.Handlers.{handlers_of}
use Rattle.jv_meaning_typing.specs.Typing.{catches_throwable}
use Rattle.jv_verify_pass.proofs.Tests.{more_hold, one_fails}
use Rattle.jv_verify_pass.proofs.catching.catch_throwables.Goals as goal

pub returns-then-not-catches_throwable : goal.returns-then-not-catches_throwable
returns-then-not-catches_throwable c = λ env has.
    sym (one_fails (catches_throwable env) (handlers_of c.args.handlers) c.loop-place.place c.in-Some.handler (sym c.handler.ensures ∙ c.in-Some.is)
    (sym (c.catches_throwable.ensures env has) ∙ c.if-not-catches_throwable.true))

pub loop-place-preserved : goal.loop-place-preserved
loop-place-preserved c = λ env has.
    more_hold (catches_throwable env) (handlers_of c.args.handlers) c.loop-place.place c.in-Some.handler (sym c.handler.ensures ∙ c.in-Some.is)
    (c.loop-place.invariant env has) (sym (c.catches_throwable.ensures env has) ∙ c.if-not-catches_throwable.false)
