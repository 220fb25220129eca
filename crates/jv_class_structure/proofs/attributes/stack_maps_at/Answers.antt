use Rattle.std.proofs.Common.{arith}
use Rattle.jv_class_structure.proofs.Packing.{half_rest, found_behind}
use Rattle.jv_class_structure.proofs.attributes.stack_maps_at.Goals as goal

pub returns-clause-there : goal.returns-clause-there
returns-clause-there c =
    found_behind c.args.bytes.now c.in-Some.rest.now c.stack_maps_listed.result
    (half_rest c.args.bytes.now c.in-Some.rest.now c.in-Some.count (λ i. omega (arith, c.type_inv.bytes i)) c.in-Some.ensures) c.stack_maps_listed.ensures.there
