use Rattle.std.proofs.Common.{arith, ℤ, ◌+◌, to_z, of_z, refl, sym, subst}
use Rattle.std.proofs.lemmas.Int.{to_z-of_z}
use Rattle.std.specs.Int.{w16}
use Rattle.jv_code.specs.Insns.{Instruction}
use Rattle.jv_code.specs.Numbers.{signed16}
use Rattle.jv_code.specs.Places.{IsAt}
use Rattle.jv_code.specs.declared.insn.Insn.TheVariants as insns
use Rattle.jv_code.specs.declared.kinds.Computation.TheVariants as compute
use Rattle.jv_code.specs.declared.kinds.IntForm.TheVariants as int_forms
use Rattle.jv_interp_words.proofs.OpcodesStand.{offset_small, stands_at, opcode_and}
use Rattle.jv_interp_words.proofs.StepsStand.{can_work, went_to}
use Rattle.jv_interp_words.proofs.computing_steps.step_half_constant.Goals as goal

pub compute-requires : goal.compute-requires
compute-requires c =
    let at = c.args.at.now in
    let value = c.half_constant-value in
    let same = to_z-of_z w16 value.result (record { sfits = value.type_inv }) in
    let insn : Instruction = insns.Compute (compute.IntConstant (to_z w16 (of_z w16 value.result)) int_forms.Half) in
    let is : IsAt at.code.now at.pc insn = subst (λ (z : ℤ). IsAt at.code.now at.pc (insns.Compute (compute.IntConstant z int_forms.Half))) (sym same)
    (stands_at (insns.Compute (compute.IntConstant value.result int_forms.Half)) at c.args.words.now c.requires.can
    (opcode_and at.code.now at.pc 17 (signed16.spelling value.result) c.requires.opcode value.ensures.stands) (value.ensures.fits)) in
    can_work insn (at.pc + 3) at c.args.words.now c.requires.can is refl

pub returns : goal.returns
returns c =
    let at = c.args.at.now in
    let value = c.half_constant-value in
    let same = to_z-of_z w16 value.result (record { sfits = value.type_inv }) in
    let insn : Instruction = insns.Compute (compute.IntConstant (to_z w16 (of_z w16 value.result)) int_forms.Half) in
    let is : IsAt at.code.now at.pc insn = subst (λ (z : ℤ). IsAt at.code.now at.pc (insns.Compute (compute.IntConstant z int_forms.Half))) (sym same)
    (stands_at (insns.Compute (compute.IntConstant value.result int_forms.Half)) at c.args.words.now c.requires.can
    (opcode_and at.code.now at.pc 17 (signed16.spelling value.result) c.requires.opcode value.ensures.stands) (value.ensures.fits)) in
    went_to insn (at.pc + 3) at c.compute.new.at c.args.words.now c.compute.new.words is refl c.compute.ensures.went
    c.compute.ensures.stays c.compute.auto.words

pub overflow_add-next : goal.overflow_add-next
overflow_add-next c = record { fits = omega (arith, offset_small c.args.at.now c.args.words.now c.requires.can) }
