use Rattle.std.proofs.Common.{◌≤◌, ◌∙◌, length, refl, arith}
use Rattle.jv_class.specs.Class.{Method}
use Rattle.jv_classes.proofs.Marking.{none_marked, one_marked, all_marked}
use Rattle.jv_classes.proofs.declared_marks.mark_methods.Goals as goal

pub loop-place-init : goal.loop-place-init
loop-place-init c = (
  none_marked (λ (m : Method). m.name) (λ m. m.descriptor) c.args.seed c.args.marks.now c.args.number c.args.class.now.class.methods,
  record { width = refl; marked = λ key class h. h },
)

pub mark-requires : goal.mark-requires
mark-requires c = omega (arith, c.requires, c.loop-place.invariant.1.width)

pub loop-place-preserved : goal.loop-place-preserved
loop-place-preserved c =
    let before = c.loop-place.invariant.1 in (
      one_marked (λ (m : Method). m.name) (λ m. m.descriptor) c.args.seed c.loop-place.marks c.mark.new.self c.args.number c.args.class.now.class.methods c.loop-place.place c.member_key-key.result
          _ _ c.loop-place.invariant.0 c.mark.ensures.kept c.method_name.ensures c.method_descriptor.ensures c.member_key-key.ensures c.mark.ensures.marked,
      record { width = c.mark.ensures.kept.width ∙ before.width; marked = λ key class h. c.mark.ensures.kept.marked key class (before.marked key class h) },
    )

pub returns-clause-marked : goal.returns-clause-marked
returns-clause-marked c =
    let all : length c.args.class.now.class.methods ≤ c.loop-place.place = omega (arith, c.loop-place-test.false, c.method_count-place-end.ensures) in
    all_marked (λ (m : Method). m.name) (λ m. m.descriptor) c.args.seed c.loop-place.marks c.args.number c.args.class.now.class.methods c.loop-place.place c.loop-place.invariant.0 all
