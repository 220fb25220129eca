use Rattle.std.proofs.Common.{◌<◌, ◌∙◌, length, subst, sym}
use Rattle.jv_classes.proofs.Followed.{some_class}
use Rattle.jv_link.specs.Inside.Climbing.{upward_of, numbered}
use Rattle.jv_link.proofs.Upward.{Climbs, next_below, next_straight, fewer, climbs_on, climbs_sure, climbs_open, climbs_far}
use Rattle.jv_link.proofs.climbing.climb.Goals as goal

pub settle-requires-clause-first : goal.settle-requires-clause-first
settle-requires-clause-first c =
    let world = c.args.table.now in
    let before = subst (Climbs world c.args.from c.args.called) c.in-Some.is c.loop-next.invariant in
    let class = some_class world c.in-Some.class before.below in
    next_below world c.in-Some.class class.0 c.super_of.result class.1 c.super_of.ensures

pub settle-requires-clause-straight : goal.settle-requires-clause-straight
settle-requires-clause-straight c =
    let world = c.args.table.now in
    let before = subst (Climbs world c.args.from c.args.called) c.in-Some.is c.loop-next.invariant in
    let class = some_class world c.in-Some.class before.below in
    next_straight c.above_by_ways.ensures c.above_is_transitive.ensures world c.in-Some.class class.0 c.super_of.result class.1 c.super_of.ensures before.straight

pub returns-in-Far-clause-found : goal.returns-in-Far-clause-found
returns-in-Far-clause-found c = λ l at e at_e.
    let world = c.args.table.now in
    let before = subst (Climbs world c.args.from c.args.called) c.in-Some.is c.loop-next.invariant in
    let class = some_class world c.in-Some.class before.below in
    let met = c.in-Far.ensures.met class.0 class.1 e at_e in
    c.settle.ensures.found e met.0 at_e met.1
    ∙ climbs_far c.above_by_ways.ensures c.above_is_transitive.ensures world c.args.from c.args.called c.in-Some.class class.0 c.super_of.result e
    met.0 class.1 c.super_of.ensures at_e met.2 before l at

pub returns-in-Sure-clause-found : goal.returns-in-Sure-clause-found
returns-in-Sure-clause-found c = λ l at e at_e.
    let world = c.args.table.now in
    let before = subst (Climbs world c.args.from c.args.called) c.in-Some.is c.loop-next.invariant in
    let class = some_class world c.in-Some.class before.below in
    let met = c.in-Sure.ensures.met class.0 class.1 e at_e in
    met.1 ∙ climbs_sure c.above_by_ways.ensures c.above_is_transitive.ensures world c.args.from c.args.called c.in-Some.class class.0 e met.0 class.1 at_e met.2 before l at

pub returns-in-Opens-clause-found : goal.returns-in-Opens-clause-found
returns-in-Opens-clause-found c = λ l at e at_e.
    let world = c.args.table.now in
    let before = subst (Climbs world c.args.from c.args.called) c.in-Some.is c.loop-next.invariant in
    let class = some_class world c.in-Some.class before.below in
    let met = c.in-Opens.ensures.met class.0 class.1 e at_e in
    met.1 ∙ climbs_open c.above_by_ways.ensures c.above_is_transitive.ensures world c.args.from c.args.called c.in-Some.class class.0 e met.0 class.1 at_e met.2 before l at

pub loop-next-smaller : goal.loop-next-smaller
loop-next-smaller c =
    let world = c.args.table.now in
    let before = subst (Climbs world c.args.from c.args.called) c.in-Some.is c.loop-next.invariant in
    subst (λ o. length (upward_of world (numbered world c.super_of-next.result)) < length (upward_of world (numbered world o))) (sym c.in-Some.is)
    (fewer c.above_by_ways.ensures c.above_is_transitive.ensures world c.in-Some.class c.super_of-next.result before.below c.super_of-next.ensures before.straight)

pub loop-next-preserved : goal.loop-next-preserved
loop-next-preserved c =
    let world = c.args.table.now in
    let before = subst (Climbs world c.args.from c.args.called) c.in-Some.is c.loop-next.invariant in
    climbs_on c.above_by_ways.ensures c.above_is_transitive.ensures world c.args.from c.args.called c.in-Some.class c.super_of-next.result
    before.below c.super_of-next.ensures c.in-Nothing.ensures.met before
