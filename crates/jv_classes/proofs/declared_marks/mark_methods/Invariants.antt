use Rattle.jv_class.specs.Class.{Method}
use Rattle.jv_classes.specs.Marks.{AreKept}
use Rattle.jv_classes.proofs.Marking.{AreMarkedBelow}
use Rattle.jv_classes.proofs.declared_marks.mark_methods.Given as goal

abbrev pub invariant-loop-place : goal.invariant-loop-place
invariant-loop-place l =
    AreMarkedBelow (λ (m : Method). m.name) (λ m. m.descriptor) l.seed l.marks l.number l.class.class.methods l.place × AreKept l.fn.marks l.marks
