use Rattle.std.proofs.Common.{◌∙◌, ℕ, get_or, Option, Some, refl, sym, ap, subst}
use Rattle.jv_pool.specs.Seen.{seen_member}
use Rattle.jv_classes.proofs.Followed.{some_class}
use Rattle.jv_meaning_world.specs.LookUps.{method_in, first_found}
use Rattle.jv_lookups.specs.declared.place.Place.{Place}
use Rattle.jv_lookups.proofs.Found.{found}
use Rattle.jv_lookups.proofs.Standing.{method_stands}
use Rattle.jv_verify_types.specs.Inside.Answered.{IsMethodOfClass}
use Rattle.jv_verify_types.proofs.declared.superclass_method.Goals as goal

pub returns-in-Some-clause-found : goal.returns-in-Some-clause-found
returns-in-Some-clause-found c = λ l at.
    let world = c.args.table.now in
    let look = method_in c.args.method.now.name.now c.args.method.now.descriptor.now in
    let above = c.superclasses-superclass-items in
    let number : ℕ = get_or above.result.now c.loop-superclass.superclass-index 0 in
    let class = some_class world number (above.ensures.numbers c.loop-superclass.superclass-index 0 c.loop-superclass-test.true) in
    let is : IsMethodOfClass world number (seen_member c.args.method.now) (Some c.in-Some.place) =
    subst (λ (o : Option Place). IsMethodOfClass world number (seen_member c.args.method.now) o) c.in-Some.is c.in_ok-found.ensures.found in
    let there = method_stands world c.in-Some.place is.stands in
    there.1 ∙ (found world look above.result.now c.loop-superclass.superclass-index number class.0 there.0 c.loop-superclass-test.true refl class.1
    (sym (is.found class.0 class.1) ∙ there.1) c.loop-superclass.invariant.left
    ∙ ap (first_found look) (above.ensures.found l at))
