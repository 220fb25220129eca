use Rattle.jv_class.specs.Class.{Method}
use Rattle.jv_meaning_world.specs.World.{Loaded}
use Rattle.jv_classes.proofs.Marking.{tells_none, tells_more, tells_all}
use Rattle.jv_classes.proofs.declared_marks.method_marks.Goals as goal

pub loop-number-init : goal.loop-number-init
loop-number-init c =
    tells_none (λ (m : Method). m.name) (λ m. m.descriptor) c.args.seed (λ (l : Loaded). l.class.methods) c.args.classes.now c.in_ok-marks.marks c.in_ok-marks.ensures

pub loop-number-preserved : goal.loop-number-preserved
loop-number-preserved c =
    tells_more (λ (m : Method). m.name) (λ m. m.descriptor) c.args.seed (λ (l : Loaded). l.class.methods) c.args.classes.now c.loop-number.marks c.mark_methods.new.marks c.loop-number.number
    c.index-classes-number.result c.loop-number.invariant c.mark_methods.ensures.kept c.loop-number-test.true c.index-classes-number.is c.mark_methods.ensures.marked

pub returns : goal.returns
returns c = record {
  width = c.loop-number.invariant.width;
  marked = tells_all (λ (m : Method). m.name) (λ m. m.descriptor) c.args.seed (λ (l : Loaded). l.class.methods) c.args.classes.now c.loop-number.marks c.loop-number.number c.loop-number.invariant
      c.loop-number-test.false;
}
