use Rattle.std.proofs.Common.{◌∙◌, sym}
use Rattle.jv_classes.proofs.Told.{stands_at}
use Rattle.jv_assign.proofs.Names.{to_no_class, interface_there, interface_not, of_others}
use Rattle.jv_assign.proofs.classes.other_class_flows.Goals as goal

pub returns-in_default : goal.returns-in_default
returns-in_default c = λ x y from to other.
    sym (to_no_class c.args.table.now c.is_numbered.ensures x y (sym to ∙ c.in_default.is)) ∙ of_others c.args.table.now x y other

pub returns-then-is_loadable_interface : goal.returns-then-is_loadable_interface
returns-then-is_loadable_interface c = λ x y from to other.
    let world = c.args.table.now in
    let there = stands_at world y c.in-Some.number (sym to ∙ c.in-Some.is) in
    interface_there world x y there.0 _ there.2 (c.is_loadable_interface.ensures there.0 there.1) c.if-is_loadable_interface.true ∙ of_others world x y other

pub returns-else-is_loadable_interface : goal.returns-else-is_loadable_interface
returns-else-is_loadable_interface c = λ x y from to other.
    let world = c.args.table.now in
    let there = stands_at world y c.in-Some.number (sym to ∙ c.in-Some.is) in
    interface_not world x y there.0 _ _ other there.2 (c.is_loadable_interface.ensures there.0 there.1) c.if-is_loadable_interface.false
    (c.named_is_loadable_subclass.ensures x from there.0 there.1)
    ∙ of_others world x y other
