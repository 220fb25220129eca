use Rattle.std.proofs.Common.{◌∙◌, true, false, sym}
use Rattle.jv_class.specs.Class.{method_named}
use Rattle.jv_lookups.proofs.Standing.{method_stands}
use Rattle.jv_link.proofs.Naming.{declared_or_not}
use Rattle.jv_link.proofs.alike.alike_in.Goals as goal

pub returns-then-not-is_instance-clause-found : goal.returns-then-not-is_instance-clause-found
returns-then-not-is_instance-clause-found c = λ l at e at_e.
    let there = method_stands c.args.table.now c.in-Some.place c.in-Some.ensures.place in
    sym (declared_or_not l (method_named l.class e.method.name e.method.descriptor) there.0 false
    (sym (c.in-Some.ensures.found l at e at_e) ∙ there.1) (sym (c.is_instance.ensures there.0 there.1) ∙ c.if-not-is_instance.true))

pub returns-clause-found : goal.returns-clause-found
returns-clause-found c = λ l at e at_e.
    let there = method_stands c.args.table.now c.in-Some.place c.in-Some.ensures.place in
    there.1 ∙ sym (declared_or_not l (method_named l.class e.method.name e.method.descriptor) there.0 true
    (sym (c.in-Some.ensures.found l at e at_e) ∙ there.1) (sym (c.is_instance.ensures there.0 there.1) ∙ c.if-not-is_instance.false))
