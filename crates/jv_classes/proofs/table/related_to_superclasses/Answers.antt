use Rattle.std.proofs.Common.{◌∙◌, ◌≤◌, IsTrue, ◌||◌, ◌&&◌, nat_eq, take, map, length, None, sym, ap, subst}
use Rattle.std.proofs.lemmas.List.{get_or-map, length-map}
use Rattle.jv_classes.specs.Ways.{IsBelowSize, is_there}
use Rattle.jv_meaning_world.specs.Numbers.{superclass_number}
use Rattle.jv_classes.proofs.Rows.{told_at, told_more, told_all}
use Rattle.jv_classes.proofs.Told.{row_of_class, superclass_below, to_superclass}
use Rattle.jv_classes.proofs.table.related_to_superclasses.Goals as goal

pub relate_if-requires-clause-to : goal.relate_if-requires-clause-to
relate_if-requires-clause-to c =
    let world = c.args.classes.now in
    let row = c.deref.ensures.value ∙ row_of_class world c.args.rows.now c.loop-from.from c.index-rows-from.result c.index-classes-from.result
    c.requires.rows c.loop-from-test.true c.index-rows-from.is c.index-classes-from.is in
    subst (λ n. IsBelowSize n c.superclass_of.result) (sym c.loop-from.invariant.0)
    (subst (IsBelowSize (length world)) (sym (c.superclass_of.ensures world row)) (superclass_below world c.index-classes-from.result.class.super_class))

pub loop-from-preserved : goal.loop-from-preserved
loop-from-preserved c =
    let world = c.args.classes.now in
    let numbers = map (λ m. superclass_number world m.class) world in
    let row = c.deref.ensures.value ∙ row_of_class world c.args.rows.now c.loop-from.from c.index-rows-from.result c.index-classes-from.result
    c.requires.rows c.loop-from-test.true c.index-rows-from.is c.index-classes-from.is in
    let here = get_or-map (λ m. superclass_number world m.class) world c.loop-from.from c.index-classes-from.result None c.loop-from-test.true ∙
    ap (λ m. superclass_number world m.class) (sym c.index-classes-from.is) in (
      c.relate_if.ensures.size ∙ c.loop-from.invariant.0,
      λ a b. c.relate_if.ensures.related a b
          ∙ (ap (λ t. t || (nat_eq a c.loop-from.from && is_there b c.superclass_of.result)) (c.loop-from.invariant.1 a b)
          ∙ (ap (λ o. told_at (take c.loop-from.from numbers) a b || (nat_eq a c.loop-from.from && is_there b o)) (c.superclass_of.ensures world row ∙ sym here)
          ∙ told_more numbers c.loop-from.from a b)),
    )

pub returns-clause-related : goal.returns-clause-related
returns-clause-related c = λ a b.
    let world = c.args.classes.now in
    let numbers = map (λ m. superclass_number world m.class) world in
    let told = c.loop-from.invariant.1 a b ∙ ap (λ xs. told_at xs a b)
    (told_all numbers c.loop-from.from (subst (λ n. n ≤ c.loop-from.from) (sym (length-map world (λ m. superclass_number world m.class)))
    c.loop-from-test.false)) in
    let both = to_superclass world c.requires.numbered a b in
    (λ h. both.0 (subst IsTrue told h), λ s. subst IsTrue (sym told) (both.1 s))
