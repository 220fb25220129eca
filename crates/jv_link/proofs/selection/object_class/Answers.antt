use Rattle.std.proofs.Common.{◌∙◌, Some, codes, ap, subst, sym}
use Rattle.std.specs.Prelude.{slice_get}
use Rattle.std.specs.Option.{ok_or, option_map}
use Rattle.jv_meaning_world.proofs.Up.{named_stands}
use Rattle.jv_classes.proofs.Told.{stands_at, same_some}
use Rattle.jv_lookups.proofs.Chain.{not_named}
use Rattle.jv_loader.specs.Straight.{IsStraight}
use Rattle.jv_meaning_typing.specs.LinkErrors.LinkError.{AbstractMethodError}
use Rattle.jv_meaning_typing.specs.Selection.{object_class}
use Rattle.jv_link.specs.Seen.{answer}
use Rattle.jv_link.specs.Objects.{object_class_at}
use Rattle.jv_link.proofs.selection.object_class.Goals as goal

pub returns-in-Some-find-clause-found : goal.returns-in-Some-find-clause-found
returns-in-Some-find-clause-found c =
    let world = c.args.table.now in
    let there = stands_at world (codes "java/lang/Object") c.in-Some-find.class (sym c.find.ensures ∙ c.in-Some-find.is) in
    ap (option_map answer) there.1 ∙ (ap (λ o. Some (ok_or o AbstractMethodError)) (sym there.2) ∙ ap (λ o. Some (object_class world (object_class_at world o))) (sym c.in-None.is))

pub returns-in-Some-find-clause-straight : goal.returns-in-Some-find-clause-straight
returns-in-Some-find-clause-straight c = λ l at.
    let world = c.args.table.now in
    let there = stands_at world (codes "java/lang/Object") c.in-Some-find.class (sym c.find.ensures ∙ c.in-Some-find.is) in
    subst (IsStraight world) (same_some (slice_get world c.in-Some-find.class) there.0 l there.1 at)
    (c.requires.straight.loadable there.0 (named_stands world (codes "java/lang/Object") there.0 there.2) (c.requires.straight.object there.0 there.2))

pub returns-in-None-find-clause-found : goal.returns-in-None-find-clause-found
returns-in-None-find-clause-found c =
    let world = c.args.table.now in
    ap (λ o. Some (ok_or o AbstractMethodError)) (sym (not_named world (codes "java/lang/Object") (sym c.find.ensures ∙ c.in-None-find.is)))
    ∙ ap (λ o. Some (object_class world (object_class_at world o))) (sym c.in-None.is)
