use Rattle.std.proofs.Common.{◌∙◌, sym, ap}
use Rattle.jv_meaning_world.specs.LookUps.{method_if, is_public_instance, method_if_loaded, method_in}
use Rattle.jv_classes.proofs.Told.{stands_at}
use Rattle.jv_lookups.proofs.Chain.{not_named}
use Rattle.jv_lookups.proofs.Standing.{method_stands}
use Rattle.jv_lookups.proofs.Tests.{kept, dropped}
use Rattle.jv_lookups.proofs.method.declared_by_object.Goals as goal

pub returns-in_default-clause-found : goal.returns-in_default-clause-found
returns-in_default-clause-found c =
    ap (λ o. method_if is_public_instance (method_if_loaded c.args.name.now c.args.descriptor.now o)) (sym (not_named c.args.table.now _ (sym c.find.ensures ∙ c.in_default.is)))

pub returns-in_default-declared_method-clause-found : goal.returns-in_default-declared_method-clause-found
returns-in_default-declared_method-clause-found c =
    let object = stands_at c.args.table.now _ c.in-Some.object (sym c.find.ensures ∙ c.in-Some.is) in
    ap (method_if is_public_instance) (c.in_default-declared_method.ensures.found object.0 object.1)
    ∙ ap (λ o. method_if is_public_instance (method_if_loaded c.args.name.now c.args.descriptor.now o)) (sym object.2)

pub returns-then-not-is_public_instance-clause-found : goal.returns-then-not-is_public_instance-clause-found
returns-then-not-is_public_instance-clause-found c =
    let object = stands_at c.args.table.now _ c.in-Some.object (sym c.find.ensures ∙ c.in-Some.is) in
    let there = method_stands c.args.table.now c.in-Some-declared_method.place c.in-Some-declared_method.ensures.place in
    dropped is_public_instance (method_in c.args.name.now c.args.descriptor.now object.0) there.0
    (sym (c.in-Some-declared_method.ensures.found object.0 object.1) ∙ there.1) (sym (c.is_public_instance.ensures there.0 there.1) ∙
    c.if-not-is_public_instance.true)
    ∙ ap (λ o. method_if is_public_instance (method_if_loaded c.args.name.now c.args.descriptor.now o)) (sym object.2)

pub returns-clause-found : goal.returns-clause-found
returns-clause-found c =
    let object = stands_at c.args.table.now _ c.in-Some.object (sym c.find.ensures ∙ c.in-Some.is) in
    let there = method_stands c.args.table.now c.in-Some-declared_method.place c.in-Some-declared_method.ensures.place in
    there.1 ∙ (kept is_public_instance (method_in c.args.name.now c.args.descriptor.now object.0) there.0
    (sym (c.in-Some-declared_method.ensures.found object.0 object.1) ∙ there.1) (sym (c.is_public_instance.ensures there.0 there.1) ∙
    c.if-not-is_public_instance.false)
    ∙ ap (λ o. method_if is_public_instance (method_if_loaded c.args.name.now c.args.descriptor.now o)) (sym object.2))
