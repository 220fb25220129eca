use Rattle.std.proofs.Common.{◌≡◌, refl, arith, length}
use Rattle.jv_classes.proofs.Followed.{some_class}
use Rattle.jv_lookups.proofs.MarkedAbove.{marks_step, marks_end}
use Rattle.jv_lookups.proofs.superinterface.mark_above_candidates.Goals as goal

pub loop-class-init : goal.loop-class-init
loop-class-init c = record { size = refl; left = λ to l at by at_by. refl }

pub loop-class-preserved : goal.loop-class-preserved
loop-class-preserved c =
    let world = c.args.table.now in
    let class = some_class world _ (c.requires.searched c.loop-class.class-index 0 c.loop-class-test.true) in
    marks_step world c.args.from c.args.searched.now c.args.name.now c.args.descriptor.now c.args.above.now c.loop-class.above c.mark_above_candidate.new.above
    c.loop-class.class-index _ class.0 c.loop-class-test.true refl class.1 c.mark_above_candidate.ensures.size c.mark_above_candidate.ensures.marked c.loop-class.invariant

pub returns-clause-marked : goal.returns-clause-marked
returns-clause-marked c =
    let size : length c.args.searched.now ≡ c.loop-class.class-index = omega (arith, c.loop-class-test.false) in
    marks_end c.args.table.now c.args.from c.args.searched.now c.args.name.now c.args.descriptor.now c.args.above.now c.loop-class.above c.loop-class.class-index size c.loop-class.invariant
