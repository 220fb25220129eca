use Rattle.std.proofs.Common.{sym, ◌∙◌}
use Rattle.jv_interp_objects.proofs.NamedTypes.{element_found, element_missing}
use Rattle.jv_interp_objects.proofs.naming.element_number.Goals as goal

pub returns-in-Some-clause-number : goal.returns-in-Some-clause-number
returns-in-Some-clause-number c =
    element_found c.args.table.now c.args.element c.in-Class.field-0 c.in-Some.number c.in-Class.is (sym c.in-Some.is ∙ c.requires.class)

pub returns-in-None-clause-number : goal.returns-in-None-clause-number
returns-in-None-clause-number c =
    element_missing c.args.table.now c.args.element c.in-Class.field-0 c.in-Class.is (sym c.in-None.is ∙ c.requires.class)
