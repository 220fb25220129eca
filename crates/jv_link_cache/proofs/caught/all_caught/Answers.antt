use Rattle.std.proofs.Common.{◌+◌, List, sym, subst, ◌∙◌}
use Rattle.jv_format.specs.Handlers.{handlers_of}
use Rattle.jv_format.specs.declared.handlers.Handler.{Handler}
use Rattle.jv_link_cache.specs.declared.caught.Caught.{Caught}
use Rattle.jv_link_cache.specs.Inside.Caught.{IsCaught, IsCaughtAt}
use Rattle.jv_link_cache.specs.Inside.Each.{Each}
use Rattle.jv_link_cache.proofs.CatchTypes.{same_some}
use Rattle.jv_link_cache.proofs.Eachwise.{each_goes_on}
use Rattle.jv_link_cache.proofs.caught.all_caught.Goals as goal

pub loop-place-preserved : goal.loop-place-preserved
loop-place-preserved c =
    let handlers = handlers_of c.args.handlers in
    let P = IsCaughtAt c.args.table.now c.args.pool.now handlers in
    record {
      caught =
          subst (λ (xs : List Caught). Each P (c.loop-place.place + 1) xs) (sym c.in_ok-push.ensures.items)
          (each_goes_on P c.loop-place.place c.loop-place.caught.items c.in_ok-caught_by.field-0
          (λ h there. subst (λ (x : Handler). IsCaught c.args.table.now c.args.pool.now x c.in_ok-caught_by.field-0)
          (same_some c.in-Some.handler h (c.in-Some.ensures ∙ there)) c.in_ok-caught_by.ensures.caught)
          c.loop-place.invariant.caught);
      known = c.in_ok-caught_by.ensures.known;
    }
