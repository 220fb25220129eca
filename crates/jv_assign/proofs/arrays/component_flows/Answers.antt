use Rattle.std.proofs.Common.{◌∙◌, sym, arith}
use Rattle.jv_text.specs.Seen.{seen_element}
use Rattle.jv_assign.proofs.Components.{as_many, more, fewer}
use Rattle.jv_assign.proofs.arrays.component_flows.Goals as goal

pub returns-then-from-to : goal.returns-then-from-to
returns-then-from-to c = c.element_flows.ensures ∙
    sym (as_many c.args.table.now c.args.from.dimensions c.args.to.dimensions (seen_element c.args.from.element) (seen_element c.args.to.element)
    c.if-from-to.true)

pub returns-then-from-to-2 : goal.returns-then-from-to-2
returns-then-from-to-2 c =
    c.array_flows_to.ensures c.args.table.now (seen_element c.args.from.element)
    ∙ sym (more c.args.table.now c.args.from.dimensions c.args.to.dimensions (seen_element c.args.from.element) (seen_element c.args.to.element) c.if-from-to-2.true)

pub returns-else-from-to-2 : goal.returns-else-from-to-2
returns-else-from-to-2 c = sym (fewer c.args.table.now c.args.from.dimensions c.args.to.dimensions (seen_element c.args.from.element)
    (seen_element c.args.to.element) (omega (arith, c.if-from-to.false, c.if-from-to-2.false)))
