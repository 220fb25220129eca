use Rattle.std.proofs.Common.{◌∙◌, refl, sym}
use Rattle.jv_classes.proofs.Followed.{some_class}
use Rattle.jv_lookups.specs.Inside.Members.{candidate_in}
use Rattle.jv_lookups.proofs.Found.{found, passed}
use Rattle.jv_lookups.proofs.Standing.{method_stands}
use Rattle.jv_lookups.proofs.superinterface.first_candidate.Goals as goal

pub returns-in-Some-clause-found : goal.returns-in-Some-clause-found
returns-in-Some-clause-found c = λ l at.
    let world = c.args.table.now in
    let class = some_class world _ (c.requires.searched c.loop-class.class-index 0 c.loop-class-test.true) in
    let there = method_stands world c.in-Some.place c.in-Some.ensures.place in
    there.1 ∙ found world (candidate_in c.args.name.now c.args.descriptor.now l) c.args.searched.now c.loop-class.class-index _ class.0 there.0 c.loop-class-test.true refl class.1
    (sym (c.in-Some.ensures.found l at class.0 class.1) ∙ there.1) (c.loop-class.invariant l at)

pub loop-class-preserved : goal.loop-class-preserved
loop-class-preserved c = λ l at.
    let world = c.args.table.now in
    let class = some_class world _ (c.requires.searched c.loop-class.class-index 0 c.loop-class-test.true) in
    passed world (candidate_in c.args.name.now c.args.descriptor.now l) c.args.searched.now c.loop-class.class-index _ class.0 c.loop-class-test.true refl class.1
    (sym (c.in_default.ensures.found l at class.0 class.1)) (c.loop-class.invariant l at)
