use Rattle.jv_stackmap.proofs.Chopping.{chop_on, chop_ends}
use Rattle.jv_stackmap.proofs.table.FrameTable.chop.Goals as goal

pub returns-then-not-chop_one : goal.returns-then-not-chop_one
returns-then-not-chop_one c = chop_ends c.args.count c.loop.counter c.loop.self _ c.loop-test.true c.if-not-chop_one.ensures c.loop.invariant

pub loop-preserved : goal.loop-preserved
loop-preserved c = chop_on c.args.count c.loop.counter c.loop.self c.chop_one.new.self _ c.loop-test.true c.if-not-chop_one.ensures c.loop.invariant
