use Rattle.std.proofs.Common.{◌∙◌, ap}
use Rattle.jv_meaning_world.specs.Verdicts.{is_interface}
use Rattle.jv_classes.proofs.Told.{other_name}
use Rattle.jv_lookups.proofs.Classes.{same_class}
use Rattle.jv_lookups.proofs.Tests.{and_not}
use Rattle.jv_lookups.proofs.superinterface.is_superinterface.Goals as goal

pub returns : goal.returns
returns c = λ l at m at_m.
    let world = c.args.table.now in
    c.is_interface.ensures ∙ (ap is_interface (same_class world c.classes.result.now c.args.class c.index-classes-class.result m c.classes.ensures c.index-classes-class.is at_m)
    ∙ and_not (is_interface m) _ (other_name world c.is_numbered.ensures c.args.class c.args.from m l at_m at c.if-class-from.false))
