use Rattle.std.proofs.Common.{arith}
use Rattle.jv_format.specs.Handlers.{handlers_of}
use Rattle.jv_class_structure.proofs.Packing.{handlers_rest, found_before}
use Rattle.jv_class_structure.proofs.members.tables_at.Goals as goal

pub returns-clause-there : goal.returns-clause-there
returns-clause-there c =
    found_before c.args.bytes.now c.in-Some.rest.now c.in-Some-stack_maps_at.map
    (handlers_rest c.args.bytes.now c.in-Some.rest.now (handlers_of c.in-Some.handlers) (λ i. omega (arith, c.type_inv.bytes i)) c.in-Some.ensures)
    c.in-Some-stack_maps_at.ensures.there
