use Rattle.std.proofs.Common.{◌∙◌, ap, sym, set, get_or}
use Rattle.std.proofs.lemmas.List.Edits.{map_over_more}
use Rattle.jv_verify_pass.specs.declared.stacks.FlowedStack.{FlowedStack}
use Rattle.jv_verify_pass.specs.Inside.Stacks.{lowered}
use Rattle.jv_verify_pass.proofs.stacks.lower_all.Goals as goal

pub loop-stack-preserved : goal.loop-stack-preserved
loop-stack-preserved c =
    let stacks = c.loop-stack.stacks in
    let i = c.loop-stack.stack-index in
    let s = c.stack-item.result in
    ap (λ n. set stacks i (record (get_or stacks i s) { lowest = n })) c.lower-stack.ensures
    ∙ (ap (λ (x : FlowedStack). set stacks i (lowered c.args.stayed x)) (sym c.stack-item.is)
    ∙ map_over_more (lowered c.args.stayed) c.args.stacks.now stacks i s c.loop-stack-test.true c.loop-stack.invariant c.stack-item.is)
