use Rattle.std.proofs.Common.{◌≡◌, ℕ, ◌+◌, ◌-◌, ◌≤◌, [], ◌∷◌, length, get_or, refl, subst, arith}
use Rattle.jv_code.specs.Operands.{HasBytes, least_operands}
use Rattle.jv_code.proofs.OperandLaws.{has_room, operands_there}
use Rattle.jv_interp_words.proofs.OpcodesStand.{byte_stands}
use Rattle.jv_interp_steps.proofs.decoding.opcode_at.Goals as goal

pub returns-clause-stands : goal.returns-clause-stands
returns-clause-stands c =
    let read = c.requires.read in
    let is : get_or c.args.code.now c.args.pc 0 ≡ c.args.read - 1 = omega (arith, read) in
    subst (λ (n : ℕ). HasBytes c.args.code.now c.args.pc (n ∷ [])) is
    (byte_stands c.args.code.now c.args.pc (has_room c.args.code.now c.args.pc c.requires.start))

pub returns-clause-room : goal.returns-clause-room
returns-clause-room c =
    let read = c.requires.read in
    let is : get_or c.args.code.now c.args.pc 0 ≡ c.args.read - 1 = omega (arith, read) in
    let stands = byte_stands c.args.code.now c.args.pc (has_room c.args.code.now c.args.pc c.requires.start) in
    let opcode = get_or c.args.code.now c.args.pc 0 in
    subst (λ (n : ℕ). c.args.pc + 1 + least_operands n ≤ length c.args.code.now) is
    (operands_there c.args.code.now (opcode ∷ stands.0) stands.0 c.args.pc opcode c.requires.start (λ i. omega (arith, c.type_inv.code i)) stands.1 refl)
