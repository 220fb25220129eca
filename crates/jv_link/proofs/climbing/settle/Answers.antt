use Rattle.std.proofs.Common.{◌<◌, ◌∙◌, length, subst, sym}
use Rattle.jv_link.specs.Inside.Climbing.{meets, upward_of, numbered}
use Rattle.jv_link.proofs.Upward.{Waits, fewer, waits_on}
use Rattle.jv_link.proofs.climbing.settle.Goals as goal

pub loop-next-smaller : goal.loop-next-smaller
loop-next-smaller c =
    let world = c.args.table.now in
    let before = subst (λ o. Waits world c.args.called c.args.waits c.args.first o c.loop-next.sure) c.in-Some.is c.loop-next.invariant in
    subst (λ o. length (upward_of world (numbered world c.super_of-next.result)) < length (upward_of world (numbered world o))) (sym c.in-Some.is)
    (fewer c.above_by_ways.ensures c.above_is_transitive.ensures world c.in-Some.class c.super_of-next.result before.below c.super_of-next.ensures before.straight)

pub loop-next-preserved : goal.loop-next-preserved
loop-next-preserved c =
    let world = c.args.table.now in
    let before = subst (λ o. Waits world c.args.called c.args.waits c.args.first o c.loop-next.sure) c.in-Some.is c.loop-next.invariant in
    waits_on c.above_by_ways.ensures c.above_is_transitive.ensures world c.args.called c.args.waits c.args.first c.in-Some.class c.loop-next.sure
    c.super_of-next.result c.sure_behind-sure.result before.below c.super_of-next.ensures c.sure_behind-sure.ensures.place
    (λ l at e at_e.
    let met = c.meets-met.ensures.met l at e at_e in
    (sym (c.is_opening.ensures world (meets world e l) met) ∙ c.if-is_opening.false, c.sure_behind-sure.ensures.found (meets world e l) met)) before
