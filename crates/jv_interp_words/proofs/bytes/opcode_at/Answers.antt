use Rattle.std.proofs.Common.{◌∷◌, get_or, refl, arith}
use Rattle.jv_code.proofs.OperandLaws.{has_room, operands_there}
use Rattle.jv_interp_words.proofs.OpcodesStand.{byte_stands}
use Rattle.jv_interp_words.proofs.bytes.opcode_at.Goals as goal

pub returns-clause-stands : goal.returns-clause-stands
returns-clause-stands c = byte_stands c.args.code.now c.args.pc (has_room c.args.code.now c.args.pc c.requires)

pub returns-clause-room : goal.returns-clause-room
returns-clause-room c =
    let stands = byte_stands c.args.code.now c.args.pc (has_room c.args.code.now c.args.pc c.requires) in
    let opcode = get_or c.args.code.now c.args.pc 0 in
    operands_there c.args.code.now (opcode ∷ stands.0) stands.0 c.args.pc opcode c.requires (λ i. omega (arith, c.type_inv.code i)) stands.1 refl
