use Rattle.jv_class.specs.Class.{Field}
use Rattle.jv_meaning_world.specs.World.{Loaded}
use Rattle.jv_classes.proofs.Marking.{TellsBelow}
use Rattle.jv_classes.proofs.declared_marks.field_marks.Given as goal

abbrev pub invariant-loop-number : goal.invariant-loop-number
invariant-loop-number l = TellsBelow (λ (f : Field). f.name) (λ f. f.descriptor) l.seed (λ (c : Loaded). c.class.fields) l.classes l.number l.marks
