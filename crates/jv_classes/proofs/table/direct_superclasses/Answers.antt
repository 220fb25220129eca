use Rattle.std.proofs.Common.{◌∙◌, ◌++◌, ◌∷◌, [], ap, sym}
use Rattle.jv_meaning_world.specs.World.{Loaded}
use Rattle.jv_meaning_world.specs.Numbers.{superclass_number}
use Rattle.jv_classes.proofs.Numbers.{map_more}
use Rattle.jv_classes.proofs.Told.{row_of_class, class_at}
use Rattle.jv_classes.proofs.Marking.{same_some}
use Rattle.jv_classes.proofs.table.direct_superclasses.Goals as goal

pub loop-from-preserved : goal.loop-from-preserved
loop-from-preserved c =
    let world = c.args.classes.now in
    let row = c.deref.ensures.value ∙ row_of_class world c.args.rows.now c.loop-from.from c.index-rows-from.result c.index-classes-from.result
    c.requires c.loop-from-test.true c.index-rows-from.is c.index-classes-from.is in
    let here = class_at world c.loop-from.from c.index-classes-from.result c.loop-from-test.true c.index-classes-from.is in
    c.in_ok-push.ensures.items ∙ (ap (λ bs. bs ++ c.superclass_of.result ∷ []) c.loop-from.invariant
    ∙ map_more (λ (l : Loaded). superclass_number world l.class) world c.loop-from.from c.superclass_of.result c.loop-from-test.true
    (λ l at. c.superclass_of.ensures world row ∙ ap (λ (m : Loaded). superclass_number world m.class) (same_some c.index-classes-from.result l (sym here ∙ at))))
