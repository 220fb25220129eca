use Rattle.std.proofs.Common.{◌∙◌, refl, sym}
use Rattle.jv_classes.proofs.Followed.{some_class}
use Rattle.jv_lookups.specs.Inside.Members.{below_in}
use Rattle.jv_lookups.proofs.Found.{any_found, any_passed}
use Rattle.jv_lookups.proofs.superinterface.has_below.Goals as goal

pub returns-then-class-above : goal.returns-then-class-above
returns-then-class-above c = c.requires.above c.args.class c.if-class-above.true

pub returns-then-is_below_candidate : goal.returns-then-is_below_candidate
returns-then-is_below_candidate c = λ l at by at_by.
    let world = c.args.table.now in
    let class = some_class world _ (c.requires.searched c.loop-other.other-index 0 c.loop-other-test.true) in
    any_found world (below_in world c.args.name.now c.args.descriptor.now l by) c.args.searched.now c.loop-other.other-index _ class.0 c.loop-other-test.true refl class.1
    (sym (c.is_below_candidate.ensures l at by at_by class.0 class.1) ∙ c.if-is_below_candidate.true) (c.loop-other.invariant l at by at_by)

pub loop-other-preserved : goal.loop-other-preserved
loop-other-preserved c = λ l at by at_by.
    let world = c.args.table.now in
    let class = some_class world _ (c.requires.searched c.loop-other.other-index 0 c.loop-other-test.true) in
    any_passed world (below_in world c.args.name.now c.args.descriptor.now l by) c.args.searched.now c.loop-other.other-index _ class.0 c.loop-other-test.true refl class.1
    (sym (c.is_below_candidate.ensures l at by at_by class.0 class.1) ∙ c.if-is_below_candidate.false) (c.loop-other.invariant l at by at_by)
