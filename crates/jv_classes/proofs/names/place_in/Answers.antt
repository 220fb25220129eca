use Rattle.std.proofs.Common.{arith}
use Rattle.jv_classes.proofs.LinkedNames.{name_begins, name_found, name_goes_on, name_below, name_ends}
use Rattle.jv_classes.proofs.names.place_in.Goals as goal

pub loop-end-init : goal.loop-end-init
loop-end-init c =
    name_begins c.args.seed c.args.names.now c.args.before.now c.args.ends.now c.requires.linked c.args.name.now c.args.hash c.slot_of-slot.result c.requires.hash c.slot_of-slot.ensures.slot
    c.slot_of-slot.ensures.within

pub returns-then-eq : goal.returns-then-eq
returns-then-eq c =
    name_found c.args.seed c.args.names.now c.args.before.now c.args.ends.now c.requires.linked c.args.name.now c.args.hash c.slot_of-slot.result c.requires.hash c.slot_of-slot.ensures.slot
    c.loop-end.end c.loop-end.invariant (omega (arith, c.loop-end-test.true)) _ c.eq.result c.eq.ensures c.if-eq.true

pub loop-end-smaller : goal.loop-end-smaller
loop-end-smaller c =
    name_below c.args.seed c.args.names.now c.args.before.now c.args.ends.now c.requires.linked c.args.name.now c.args.hash c.slot_of-slot.result c.requires.hash c.slot_of-slot.ensures.slot
    c.loop-end.end c.loop-end.invariant (omega (arith, c.loop-end-test.true)) _ c.eq.result c.eq.ensures

pub loop-end-preserved : goal.loop-end-preserved
loop-end-preserved c =
    name_goes_on c.args.seed c.args.names.now c.args.before.now c.args.ends.now c.requires.linked c.args.name.now c.args.hash c.slot_of-slot.result c.requires.hash c.slot_of-slot.ensures.slot
    c.loop-end.end c.loop-end.invariant (omega (arith, c.loop-end-test.true)) _ c.eq.result c.eq.ensures c.if-eq.false

pub returns : goal.returns
returns c =
    name_ends c.args.seed c.args.names.now c.args.before.now c.args.ends.now c.requires.linked c.args.name.now c.args.hash c.slot_of-slot.result c.requires.hash c.slot_of-slot.ensures.slot
    c.loop-end.end c.loop-end.invariant (omega (arith, c.loop-end-test.false))
