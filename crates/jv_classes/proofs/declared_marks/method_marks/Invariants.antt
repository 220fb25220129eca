use Rattle.jv_class.specs.Class.{Method}
use Rattle.jv_meaning_world.specs.World.{Loaded}
use Rattle.jv_classes.proofs.Marking.{TellsBelow}
use Rattle.jv_classes.proofs.declared_marks.method_marks.Given as goal

abbrev pub invariant-loop-number : goal.invariant-loop-number
invariant-loop-number l = TellsBelow (λ (m : Method). m.name) (λ m. m.descriptor) l.seed (λ (c : Loaded). c.class.methods) l.classes l.number l.marks
