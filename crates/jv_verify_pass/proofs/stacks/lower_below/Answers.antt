use Rattle.std.proofs.Common.{◌≡◌, ◌∙◌, ap, sym, set, get_or}
use Rattle.std.proofs.lemmas.List.Edits.{map_over_more}
use Rattle.jv_verify_pass.specs.declared.stacks.FlowedStack.{FlowedStack}
use Rattle.jv_verify_pass.specs.Inside.Objects.{below_places}
use Rattle.jv_verify_pass.specs.Inside.Stacks.{lowered_below}
use Rattle.jv_verify_pass.proofs.stacks.lower_below.Goals as goal

pub loop-stack-preserved : goal.loop-stack-preserved
loop-stack-preserved c =
    let stacks = c.loop-stack.stacks in
    let places = c.args.places.now in
    let i = c.loop-stack.stack-index in
    let s = c.stack-item.result in
    let t = get_or stacks i s in
    let left : c.below_least-stack.result ≡ below_places t.objects.items places t.lowest =
    c.below_least-stack.ensures ∙ ap (λ objects. below_places objects places t.lowest) c.deref.ensures.value in
    ap (λ n. set stacks i (record (get_or stacks i s) { lowest = n })) left
    ∙ (ap (λ (x : FlowedStack). set stacks i (lowered_below places x)) (sym c.stack-item.is)
    ∙ map_over_more (lowered_below places) c.args.stacks.now stacks i s c.loop-stack-test.true c.loop-stack.invariant c.stack-item.is)
