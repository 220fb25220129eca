use Rattle.jv_malformed.proofs.Passing.{halves_start, halves_on, halves_end, halves_done, no_interfaces}
use Rattle.jv_malformed.proofs.structure.behind_interfaces.Goals as goal

pub returns-in_default : goal.returns-in_default
returns-in_default c = no_interfaces c.args.bytes.now c.in_default.ensures

pub loop-init : goal.loop-init
loop-init c = halves_start c.args.bytes.now c.in-Some.behind.now c.in-Some.count c.in-Some.ensures

pub loop-preserved : goal.loop-preserved
loop-preserved c =
    halves_on c.in-Some.count c.loop.counter c.loop.rest.now c.in-Some-half_at.after.now c.args.bytes.now c.in-Some-half_at._interface c.loop-test.true
    c.in-Some-half_at.ensures c.loop.invariant

pub returns-in_default-half_at : goal.returns-in_default-half_at
returns-in_default-half_at c =
    halves_end c.in-Some.count c.loop.counter c.loop.rest.now c.args.bytes.now c.loop-test.true c.in_default-half_at.ensures c.loop.invariant

pub returns : goal.returns
returns c = halves_done c.in-Some.count c.loop.counter c.loop.rest.now c.args.bytes.now c.loop-test.false c.loop.invariant
