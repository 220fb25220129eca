use Rattle.std.proofs.Common.{◌∙◌, sym}
use Rattle.jv_classes.proofs.Tests.{no_superclass, a_superclass, nothing, something}
use Rattle.jv_classes.proofs.supers.have_right_kind.Goals as goal

pub returns-else-is_some : goal.returns-else-is_some
returns-else-is_some c =
    let class = c.args.class.now.class in
    c.are_interfaces.ensures
    ∙ no_superclass c.args.classes.now class c.args.supers.now c.requires (nothing c.super_name.result class.super_class (sym c.is_some.ensures ∙ c.if-is_some.false) c.super_name.ensures)

pub returns-then-is_some : goal.returns-then-is_some
returns-then-is_some c =
    let class = c.args.class.now.class in
    let named = something c.super_name.result class.super_class (sym c.is_some.ensures ∙ c.if-is_some.true) c.super_name.ensures in
    c.are_class_and_interfaces.ensures ∙ a_superclass c.args.classes.now class c.args.supers.now named.0 c.requires named.1
