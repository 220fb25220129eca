use Rattle.std.proofs.Common.{arith, ℤ, ◌+◌, to_z, of_z, refl, sym, subst}
use Rattle.std.proofs.lemmas.Int.{to_z-of_z}
use Rattle.std.specs.Int.{w32}
use Rattle.jv_code.specs.Insns.{Instruction}
use Rattle.jv_code.specs.Numbers.{signed16}
use Rattle.jv_code.specs.Opcodes.{branch_opcode}
use Rattle.jv_code.specs.Places.{IsAt}
use Rattle.jv_code.specs.declared.insn.Insn.TheVariants as insns
use Rattle.jv_code.specs.declared.kinds.Test.TheVariants as tests
use Rattle.jv_interp_words.proofs.OpcodesStand.{offset_small, stands_at, opcode_and}
use Rattle.jv_interp_words.proofs.StepsStand.{can_work, went_to}
use Rattle.jv_interp_words.proofs.branch_steps.step_if_int.Goals as goal

pub if_int-requires : goal.if_int-requires
if_int-requires c =
    let at = c.args.at.now in
    let distance = c.distance_at-distance in
    let same = to_z-of_z w32 distance.result (record { sfits = distance.type_inv }) in
    let insn : Instruction = insns.Branch (tests.IfInt c.args.condition) (to_z w32 (of_z w32 distance.result)) in
    let is : IsAt at.code.now at.pc insn = subst (λ (z : ℤ). IsAt at.code.now at.pc (insns.Branch (tests.IfInt c.args.condition) z)) (sym same)
    (stands_at (insns.Branch (tests.IfInt c.args.condition) distance.result) at c.args.words.now c.requires.can
    (opcode_and at.code.now at.pc (branch_opcode (tests.IfInt c.args.condition)) (signed16.spelling distance.result) c.requires.opcode
    distance.ensures.stands) (distance.ensures.fits)) in
    can_work insn (at.pc + 3) at c.args.words.now c.requires.can is refl

pub returns : goal.returns
returns c =
    let at = c.args.at.now in
    let distance = c.distance_at-distance in
    let same = to_z-of_z w32 distance.result (record { sfits = distance.type_inv }) in
    let insn : Instruction = insns.Branch (tests.IfInt c.args.condition) (to_z w32 (of_z w32 distance.result)) in
    let is : IsAt at.code.now at.pc insn = subst (λ (z : ℤ). IsAt at.code.now at.pc (insns.Branch (tests.IfInt c.args.condition) z)) (sym same)
    (stands_at (insns.Branch (tests.IfInt c.args.condition) distance.result) at c.args.words.now c.requires.can
    (opcode_and at.code.now at.pc (branch_opcode (tests.IfInt c.args.condition)) (signed16.spelling distance.result) c.requires.opcode
    distance.ensures.stands) (distance.ensures.fits)) in
    went_to insn (at.pc + 3) at c.if_int.new.at c.args.words.now c.args.words.now is refl c.if_int.ensures.went
    c.if_int.ensures.stays refl

pub overflow_add-next : goal.overflow_add-next
overflow_add-next c = record { fits = omega (arith, offset_small c.args.at.now c.args.words.now c.requires.can) }
