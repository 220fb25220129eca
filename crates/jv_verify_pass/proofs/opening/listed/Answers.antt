use Rattle.std.proofs.Common.{sym, ap, ◌∙◌, ◌∷◌, [], ◌++◌, List, arith}
use Rattle.jv_format.specs.declared.handlers.Handler.{Handler}
use Rattle.jv_format.specs.Handlers.{handlers_of}
use Rattle.jv_verify_pass.proofs.Opened.{one_taken, all_taken}
use Rattle.jv_verify_pass.proofs.opening.listed.Goals as goal

pub loop-place-preserved : goal.loop-place-preserved
loop-place-preserved c =
    c.in_ok-push.ensures.items
    ∙ (ap (λ (l : List Handler). l ++ c.in-Some.handler ∷ []) c.loop-place.invariant
    ∙ one_taken (handlers_of c.args.handlers) c.loop-place.place c.in-Some.handler (sym c.handler.ensures ∙ c.in-Some.is))

pub returns : goal.returns
returns c = c.loop-place.invariant ∙ all_taken (handlers_of c.args.handlers) c.loop-place.place (omega (arith, c.loop-place-test.false, c.len-place-end.ensures))
