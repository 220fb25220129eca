use Rattle.std.proofs.Common.{◌∙◌, ap, sym}
use Rattle.jv_classes.proofs.Told.{stands_at}
use Rattle.jv_meaning_world.specs.Flow.{is_loadable_below}
use Rattle.jv_assign.proofs.Names.{no_class, below_other}
use Rattle.jv_assign.proofs.classes.named_is_loadable_subclass.Goals as goal

pub returns-in_default : goal.returns-in_default
returns-in_default c = λ name is to at other. ap (is_loadable_below c.args.table.now to.class.name) (sym (no_class c.args.table.now name (sym is ∙ c.in_default.is)))

pub returns : goal.returns
returns c = λ name is to at other.
    let world = c.args.table.now in
    let there = stands_at world name c.in-Some.number (sym is ∙ c.in-Some.is) in
    c.is_loadable_subclass.ensures there.0 there.1 to at ∙ below_other world name there.0 to other there.2
