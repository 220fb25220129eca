use Rattle.std.proofs.Common.{◌∙◌, ◌&&◌, sym, ap, get_or}
use Rattle.std.specs.Prelude.{slice_get}
use Rattle.jv_meaning_world.specs.Verdicts.{is_interface}
use Rattle.jv_classes.proofs.Told.{class_at, same_some}
use Rattle.jv_assign.proofs.classes.is_loadable_interface.Goals as goal

pub returns-then-is_loadable : goal.returns-then-is_loadable
returns-then-is_loadable c = λ l at.
    let world = c.args.table.now in
    let class = c.index-classes-number.result in
    let there = class_at world c.args.number class c.requires (c.index-classes-number.is ∙ ap (λ w. get_or w c.args.number class) c.classes.ensures) in
    c.is_interface.ensures ∙ (ap is_interface (same_some (slice_get world c.args.number) class l there at)
    ∙ ap (λ b. b && is_interface l) (sym c.if-is_loadable.true ∙ c.is_loadable.ensures l at))
