use Rattle.std.proofs.Common.{◌∙◌, ◌||◌, sym, ap, subst}
use Rattle.jv_meaning_world.specs.Above.{superclasses}
use Rattle.jv_meaning_world.specs.LookUps.{is_among}
use Rattle.jv_classes.specs.Inside.Told.{TellsSuperclasses}
use Rattle.jv_classes.proofs.Told.{other_name}
use Rattle.jv_classes.proofs.class_table.ClassTable.is_subclass.Goals as goal

pub returns-else-number-of : goal.returns-else-number-of
returns-else-number-of c = λ l at to at_of.
    let world = c.args.self.now in
    let tells = subst (λ w. TellsSuperclasses w c.self.inside.superclasses) c.self.view_is c.self.invariant.superclasses in
    c.holds.ensures ∙ (tells c.args.number c.args.of l to at at_of
    ∙ sym (ap (λ b. b || is_among (superclasses world l.class) to) (other_name world c.is_numbered.ensures c.args.number c.args.of l to at at_of c.if-number-of.false)))
