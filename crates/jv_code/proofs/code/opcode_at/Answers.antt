use Rattle.std.proofs.Common.{sym, arith}
use Rattle.jv_format.specs.Format.{byte}
use Rattle.jv_format.proofs.Laws.{byte_is}
use Rattle.jv_code.proofs.OperandLaws.{has_room, byte_there, operands_there, read_stands}
use Rattle.jv_code.proofs.code.opcode_at.Goals as goal

pub split_at-requires : goal.split_at-requires
split_at-requires c = omega (arith, has_room c.args.bytes.now c.args.pc c.requires)

pub unreachable-requires : goal.unreachable-requires
unreachable-requires c = byte_there c.args.bytes.now _ c.args.pc c.requires (sym c.split_at.ensures.back) c.in_default.ensures

pub returns-clause-stands : goal.returns-clause-stands
returns-clause-stands c = read_stands byte c.args.bytes.now _ _ c.args.pc _ byte_is (λ i. omega (arith, c.type_inv.bytes i)) (sym c.split_at.ensures.back) c.in-Some.ensures

pub returns-clause-room : goal.returns-clause-room
returns-clause-room c = operands_there c.args.bytes.now _ _ c.args.pc _ c.requires (λ i. omega (arith, c.type_inv.bytes i)) (sym c.split_at.ensures.back) c.in-Some.ensures
