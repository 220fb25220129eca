use Rattle.std.proofs.Common.{◌≡◌, ◌∙◌, sym, subst}
use Rattle.std.proofs.lemmas.Option.{get_or_from_slice_get, slice_get_within}
use Rattle.jv_meaning_world.specs.Numbers.{HoldsAtNumber}
use Rattle.jv_classes.specs.Once.{direct_numbers}
use Rattle.jv_classes.proofs.Told.{row_of_class}
use Rattle.jv_classes.proofs.class_table.ClassTable.supers.Goals as goal

pub returns : goal.returns
returns c =
    let inside = c.self.inside in
    subst (λ w. HoldsAtNumber w c.args.number (λ l. c.deref.result.now ≡ direct_numbers w l.class)) c.self.view_is
    (λ l at. c.deref.ensures.value ∙ row_of_class inside.list inside.supers.items c.args.number c.index.result.now l c.self.invariant.supers
    (slice_get_within inside.list c.args.number l at) c.index.ensures (sym (get_or_from_slice_get inside.list c.args.number l l at)))
