use Rattle.jv_class.specs.Class.{Field}
use Rattle.jv_classes.specs.Marks.{AreKept}
use Rattle.jv_classes.proofs.Marking.{AreMarkedBelow}
use Rattle.jv_classes.proofs.declared_marks.mark_fields.Given as goal

abbrev pub invariant-loop-place : goal.invariant-loop-place
invariant-loop-place l =
    AreMarkedBelow (λ (f : Field). f.name) (λ f. f.descriptor) l.seed l.marks l.number l.class.class.fields l.place × AreKept l.fn.marks l.marks
