use Rattle.std.proofs.Common.{◌≡◌, ◌∙◌, Bool, Option, false, refl, sym, ap, subst}
use Rattle.std.specs.Prelude.{IfSome}
use Rattle.jv_meaning_world.specs.World.{World}
use Rattle.jv_meaning_world.specs.Numbers.{HoldsAtBoth}
use Rattle.jv_meaning_world.specs.Verdicts.{is_interface}
use Rattle.jv_pool.specs.Seen.{seen_member}
use Rattle.jv_lookups.specs.declared.place.Place.{Place}
use Rattle.jv_lookups.specs.Places.{IsMethodPlace, IsFirstOfClasses}
use Rattle.jv_verify_types.specs.Inside.Guarded.{method_is_far, AreRightlyProtected}
use Rattle.jv_verify_types.proofs.Protecting.{class_there, interface_is_near, none_of_classes, place_is_far}
use Rattle.jv_verify_types.proofs.guards.method_is_far.Goals as goal

pub returns-then-is_interface-clause-far : goal.returns-then-is_interface-clause-far
returns-then-is_interface-clause-far c = λ l at n at_n.
    let world : World = c.args.classes.now.world in
    let there = class_there world c.classes.result.now c.args.named c.index-classes-named.result n (c.classes.ensures ∙ c.table-table.ensures) c.index-classes-named.is at_n in
    interface_is_near world l (seen_member c.args.method.now) c.args.named n at_n c.requires.right
    (ap is_interface (sym there) ∙ (sym c.is_interface.ensures ∙ c.if-is_interface.true))

pub returns-in_ok-far-in-Some-clause-far : goal.returns-in_ok-far-in-Some-clause-far
returns-in_ok-far-in-Some-clause-far c =
    let answer : Bool = c.in_ok-far-in-Some.far in
    subst (λ (w : World). HoldsAtBoth w c.args.current c.args.named (λ m n. answer ≡ method_is_far w m n (seen_member c.args.method.now))) c.table-table.ensures
    (λ l at n at_n.
    let there = class_there c.table-table.result.now c.classes.result.now c.args.named c.index-classes-named.result n c.classes.ensures c.index-classes-named.is at_n in
    place_is_far c.table-table.result.now l (seen_member c.args.method.now) c.args.named n at_n c.in-Some.place c.method_at-flags.result.access_flags answer
    (ap is_interface (sym there) ∙ (sym c.is_interface.ensures ∙ c.if-is_interface.false))
    c.args.method.now.name.now c.args.method.now.descriptor.now refl refl
    (subst (λ (o : Option Place). IfSome o (IsMethodPlace c.table-table.result.now)) c.in-Some.is c.in_ok-found.ensures.stands)
    (subst (λ (o : Option Place). IsFirstOfClasses c.table-table.result.now c.args.named c.args.method.now.name.now c.args.method.now.descriptor.now o) c.in-Some.is c.in_ok-found.ensures.found n at_n)
    (λ d e. (c.method_at-flags.ensures d e).access_flags) (c.in_ok-far-in-Some.ensures.far l at))

pub returns-in-None-clause-far : goal.returns-in-None-clause-far
returns-in-None-clause-far c =
    subst (λ (w : World). HoldsAtBoth w c.args.current c.args.named (λ m n. false ≡ method_is_far w m n (seen_member c.args.method.now))) c.table-table.ensures
    (λ l at n at_n.
    let there = class_there c.table-table.result.now c.classes.result.now c.args.named c.index-classes-named.result n c.classes.ensures c.index-classes-named.is at_n in
    none_of_classes c.table-table.result.now l (seen_member c.args.method.now) c.args.named n at_n (subst AreRightlyProtected (sym c.table-table.ensures) c.requires.right)
    (ap is_interface (sym there) ∙ (sym c.is_interface.ensures ∙ c.if-is_interface.false))
    c.args.method.now.name.now c.args.method.now.descriptor.now refl refl
    (subst (λ (o : Option Place). IsFirstOfClasses c.table-table.result.now c.args.named c.args.method.now.name.now c.args.method.now.descriptor.now
    o) c.in-None.is c.in_ok-found.ensures.found n at_n))
