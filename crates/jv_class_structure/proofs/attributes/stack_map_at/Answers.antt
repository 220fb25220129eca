use Rattle.std.proofs.Common.{arith}
use Rattle.jv_format.specs.Format.{IsBytes}
use Rattle.jv_class_structure.specs.Inside.Kept.{seen_attribute}
use Rattle.jv_class_structure.proofs.Packing.{attribute_within, attribute_rest}
use Rattle.jv_class_structure.proofs.attributes.stack_map_at.Goals as goal

pub returns-then-is_stack_map_table-clause-there : goal.returns-then-is_stack_map_table-clause-there
returns-then-is_stack_map_table-clause-there c =
    let small : IsBytes c.args.bytes.now = λ i. omega (arith, c.type_inv.bytes i) in
    record {
      within = attribute_within c.args.pool.now c.args.bytes.now c.in-Some.rest.now (seen_attribute c.in-Some.attribute) small c.in-Some.ensures;
      after = attribute_rest c.args.pool.now c.args.bytes.now c.in-Some.rest.now (seen_attribute c.in-Some.attribute) small c.in-Some.ensures;
    }

pub returns-else-is_stack_map_table-clause-there : goal.returns-else-is_stack_map_table-clause-there
returns-else-is_stack_map_table-clause-there c =
    let small : IsBytes c.args.bytes.now = λ i. omega (arith, c.type_inv.bytes i) in
    record { within = tt; after = attribute_rest c.args.pool.now c.args.bytes.now c.in-Some.rest.now (seen_attribute c.in-Some.attribute) small c.in-Some.ensures }
