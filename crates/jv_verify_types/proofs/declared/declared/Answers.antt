use Rattle.std.proofs.Common.{Bool, sym, subst}
use Rattle.jv_verify_types.specs.Inside.Answered.{IsDeclared}
use Rattle.jv_verify_types.proofs.Declaring.{method_looked_up, field_looked_up}
use Rattle.jv_verify_types.proofs.declared.declared.Goals as goal

pub returns-then-of_method : goal.returns-then-of_method
returns-then-of_method c =
    subst (λ (b : Bool). IsDeclared b c.args.table.now c.args.class c.args.name.now c.args.descriptor.now c.method_of.result) (sym c.if-of_method.true)
    (method_looked_up c.args.table.now c.classes.result.now c.args.class c.index-classes-class.result c.args.name.now c.args.descriptor.now
    c.method_of.result c.classes.ensures c.index-classes-class.is c.method_of.ensures.found c.method_of.ensures.within)

pub returns-else-of_method : goal.returns-else-of_method
returns-else-of_method c =
    subst (λ (b : Bool). IsDeclared b c.args.table.now c.args.class c.args.name.now c.args.descriptor.now c.field_of.result) (sym c.if-of_method.false)
    (field_looked_up c.args.table.now c.classes.result.now c.args.class c.index-classes-class.result c.args.name.now c.args.descriptor.now
    c.field_of.result c.classes.ensures c.index-classes-class.is c.field_of.ensures.found c.field_of.ensures.within)
