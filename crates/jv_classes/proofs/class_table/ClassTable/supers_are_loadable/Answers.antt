use Rattle.std.proofs.Common.{◌∙◌, ap, map}
use Rattle.std.specs.List.{list_all}
use Rattle.jv_meaning_world.specs.Verdicts.{is_loadable}
use Rattle.jv_classes.specs.Inside.Tests.{marked_at}
use Rattle.jv_classes.proofs.Followed.{marked}
use Rattle.jv_classes.proofs.Tests.{each_super_at}
use Rattle.jv_classes.proofs.class_table.ClassTable.supers_are_loadable.Goals as goal

pub returns : goal.returns
returns c = λ l at.
    let world = c.args.self.now in
    let marks = c.deref.ensures.value ∙ (c.self.invariant.loadable ∙ ap (λ w. map (is_loadable w) w) c.self.view_is) in
    c.are_marked.ensures ∙ (ap (λ ms. list_all (marked_at ms) c.supers.result.now) marks
    ∙ (marked world (is_loadable world) c.supers.result.now ∙ each_super_at world (is_loadable world) l.class c.supers.result.now (c.supers.ensures l at)))
