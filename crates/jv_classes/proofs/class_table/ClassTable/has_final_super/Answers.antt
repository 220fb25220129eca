use Rattle.std.proofs.Common.{◌∙◌, ap}
use Rattle.jv_class_structure.specs.Flags.{has, acc_final}
use Rattle.jv_meaning_world.specs.World.{Loaded}
use Rattle.jv_meaning_world.specs.Verdicts.{passes}
use Rattle.jv_classes.specs.Inside.Tests.{passes_at}
use Rattle.jv_classes.proofs.Followed.{at_superclass}
use Rattle.jv_classes.proofs.class_table.ClassTable.has_final_super.Goals as goal

pub returns : goal.returns
returns c = λ l at.
    let world = c.args.self.now in
    c.is_final_at.ensures ∙ (ap (λ w. passes_at w (λ (m : Loaded). has m.class.access_flags acc_final) c.super_of.result) c.classes.ensures
    ∙ (ap (passes_at world (λ (m : Loaded). has m.class.access_flags acc_final)) (c.super_of.ensures l at) ∙
    ap (passes (λ (m : Loaded). has m.class.access_flags acc_final)) (at_superclass world l.class)))
