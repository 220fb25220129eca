use Rattle.std.proofs.Common.{◌∙◌, ℕ, get_or, Option, Some, refl, sym, ap, subst}
use Rattle.jv_pool.specs.Seen.{seen_member}
use Rattle.jv_classes.proofs.Followed.{some_class}
use Rattle.jv_meaning_world.specs.LookUps.{first_found}
use Rattle.jv_lookups.specs.declared.place.Place.{Place}
use Rattle.jv_lookups.specs.Inside.Members.{field_named_in}
use Rattle.jv_lookups.proofs.Found.{found}
use Rattle.jv_lookups.proofs.Standing.{field_stands}
use Rattle.jv_verify_types.specs.Inside.Answered.{IsFieldOfClass}
use Rattle.jv_verify_types.proofs.declared.field_of_searched_once.Goals as goal

pub returns-in-Some-clause-found : goal.returns-in-Some-clause-found
returns-in-Some-clause-found c = λ l e.
    let world = c.args.table.now in
    let look = field_named_in c.args.field.now.name.now c.args.field.now.descriptor.now in
    let number : ℕ = get_or c.args.searched.now c.loop-class.class-index 0 in
    let class = some_class world number (c.requires.searched c.loop-class.class-index 0 c.loop-class-test.true) in
    let is : IsFieldOfClass world number (seen_member c.args.field.now) (Some c.in-Some.place) =
    subst (λ (o : Option Place). IsFieldOfClass world number (seen_member c.args.field.now) o) c.in-Some.is c.in_ok-found.ensures.found in
    let there = field_stands world c.in-Some.place is.stands in
    there.1 ∙ (found world look c.args.searched.now c.loop-class.class-index number class.0 there.0 c.loop-class-test.true refl class.1
    (sym (is.found class.0 class.1) ∙ there.1) c.loop-class.invariant.left
    ∙ ap (first_found look) e)
