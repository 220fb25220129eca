use Rattle.std.proofs.Common.{sym, ◌∙◌, arith}
use Rattle.jv_class_structure.specs.Seen.{unpacked}
use Rattle.jv_class_structure.specs.Inside.Reading.{code_kept}
use Rattle.jv_class_structure.proofs.Gathering.{not_enclosed}
use Rattle.jv_class_structure.proofs.Packing.{contents_small}
use Rattle.jv_class_structure.proofs.members.enclosed_code_at.Goals as goal

pub returns-else-is_empty : goal.returns-else-is_empty
returns-else-is_empty c =
    not_enclosed (code_kept c.args.pool.now) c.args.bytes.now c.in-Some.inside.now c.in-Some.rest.now c.in-Some-packed_code_at.after.now (unpacked c.in-Some-packed_code_at.code)
    c.in-Some.ensures c.in-Some-packed_code_at.ensures (sym c.is_empty.ensures ∙ c.if-is_empty.false)

pub packed_code_at-requires : goal.packed_code_at-requires
packed_code_at-requires c = contents_small c.args.bytes.now c.in-Some.rest.now c.in-Some.inside.now (λ i. omega (arith, c.type_inv.bytes i)) c.in-Some.ensures
