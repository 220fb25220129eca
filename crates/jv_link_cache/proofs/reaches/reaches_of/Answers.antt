use Rattle.std.proofs.Common.{◌≡◌, ℕ, ◌+◌, List, length, sym, subst, ◌∙◌, arith}
use Rattle.jv_format.specs.Handlers.{handlers_of}
use Rattle.jv_format.specs.declared.handlers.Handler.{Handler}
use Rattle.jv_link_handlers.specs.declared.reach.Reach.{Reach}
use Rattle.jv_link_cache.specs.Inside.Each.{Each}
use Rattle.jv_link_cache.specs.Inside.Reaches.{IsReach, IsReachAt}
use Rattle.jv_link_cache.proofs.CatchTypes.{same_some}
use Rattle.jv_link_cache.proofs.Eachwise.{each_goes_on}
use Rattle.jv_link_cache.proofs.reaches.reaches_of.Goals as goal

pub loop-place-preserved : goal.loop-place-preserved
loop-place-preserved c = λ world ranks pool stand are.
    let handlers = handlers_of c.args.handlers in
    let P = IsReachAt world ranks pool handlers in
    subst (λ (rs : List Reach). Each P (c.loop-place.place + 1) rs) (sym c.in_ok-push.ensures.items)
    (each_goes_on P c.loop-place.place c.loop-place.reaches.items c.in-Some-reach_at.reach
    (λ h there. subst (λ (x : Handler). IsReach world ranks pool x c.in-Some-reach_at.reach) (same_some c.in-Some.handler h (c.in-Some.ensures ∙ there))
    (c.in-Some-reach_at.ensures world ranks pool handlers stand are (sym c.in-Some.ensures)))
    (c.loop-place.invariant world ranks pool stand are))

pub returns : goal.returns
returns c = λ world ranks pool stand are.
    let handlers = handlers_of c.args.handlers in
    let all : c.loop-place.place ≡ length handlers = omega arith in
    subst (λ (n : ℕ). Each (IsReachAt world ranks pool handlers) n c.loop-place.reaches.items) all (c.loop-place.invariant world ranks pool stand are)
