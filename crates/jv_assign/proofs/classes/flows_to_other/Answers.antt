use Rattle.std.proofs.Common.{◌∙◌, sym}
use Rattle.jv_classes.proofs.Told.{stands_at}
use Rattle.jv_assign.proofs.Names.{to_no_class, interface_there, interface_not}
use Rattle.jv_assign.proofs.classes.flows_to_other.Goals as goal

pub returns-in_default : goal.returns-in_default
returns-in_default c = sym (to_no_class c.args.table.now c.is_numbered.ensures c.args.from.now c.args.to.now (sym c.find.ensures ∙ c.in_default.is))

pub returns-then-is_loadable_interface : goal.returns-then-is_loadable_interface
returns-then-is_loadable_interface c =
    let world = c.args.table.now in
    let there = stands_at world c.args.to.now c.in-Some.number (sym c.find.ensures ∙ c.in-Some.is) in
    interface_there world c.args.from.now c.args.to.now there.0 _ there.2 (c.is_loadable_interface.ensures there.0 there.1) c.if-is_loadable_interface.true

pub returns-else-is_loadable_interface : goal.returns-else-is_loadable_interface
returns-else-is_loadable_interface c =
    let world = c.args.table.now in
    let there = stands_at world c.args.to.now c.in-Some.number (sym c.find.ensures ∙ c.in-Some.is) in
    interface_not world c.args.from.now c.args.to.now there.0 _ _ c.requires there.2 (c.is_loadable_interface.ensures there.0 there.1) c.if-is_loadable_interface.false
    (c.named_is_loadable_subclass.ensures c.args.from.now c.find-else-is_loadable_interface.ensures there.0 there.1)
