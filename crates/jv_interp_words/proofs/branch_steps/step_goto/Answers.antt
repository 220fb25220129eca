use Rattle.std.proofs.Common.{arith, ℤ, ◌+◌, to_z, of_z, refl, sym, subst}
use Rattle.std.proofs.lemmas.Int.{to_z-of_z}
use Rattle.std.specs.Int.{w32}
use Rattle.jv_code.specs.Insns.{Instruction}
use Rattle.jv_code.specs.Numbers.{signed16}
use Rattle.jv_code.specs.Places.{IsAt}
use Rattle.jv_code.specs.declared.insn.Insn.TheVariants as insns
use Rattle.jv_code.specs.declared.kinds.JumpForm.TheVariants as jump_forms
use Rattle.jv_interp_words.proofs.OpcodesStand.{offset_small, stands_at, opcode_and}
use Rattle.jv_interp_words.proofs.StepsStand.{can_work, went_to}
use Rattle.jv_interp_words.proofs.branch_steps.step_goto.Goals as goal

pub jump-requires : goal.jump-requires
jump-requires c =
    let at = c.args.at.now in
    let distance = c.distance_at-distance in
    let same = to_z-of_z w32 distance.result (record { sfits = distance.type_inv }) in
    let insn : Instruction = insns.Goto (to_z w32 (of_z w32 distance.result)) jump_forms.Half in
    let is : IsAt at.code.now at.pc insn = subst (λ (z : ℤ). IsAt at.code.now at.pc (insns.Goto z jump_forms.Half)) (sym same)
    (stands_at (insns.Goto distance.result jump_forms.Half) at c.args.words.now c.requires.can
    (opcode_and at.code.now at.pc 167 (signed16.spelling distance.result) c.requires.opcode distance.ensures.stands) (distance.ensures.fits)) in
    can_work insn (at.pc + 3) at c.args.words.now c.requires.can is refl

pub returns : goal.returns
returns c =
    let at = c.args.at.now in
    let distance = c.distance_at-distance in
    let same = to_z-of_z w32 distance.result (record { sfits = distance.type_inv }) in
    let insn : Instruction = insns.Goto (to_z w32 (of_z w32 distance.result)) jump_forms.Half in
    let is : IsAt at.code.now at.pc insn = subst (λ (z : ℤ). IsAt at.code.now at.pc (insns.Goto z jump_forms.Half)) (sym same)
    (stands_at (insns.Goto distance.result jump_forms.Half) at c.args.words.now c.requires.can
    (opcode_and at.code.now at.pc 167 (signed16.spelling distance.result) c.requires.opcode distance.ensures.stands) (distance.ensures.fits)) in
    went_to insn (at.pc + 3) at c.jump.new.at c.args.words.now c.args.words.now is refl c.jump.ensures.went
    c.jump.ensures.stays refl

pub overflow_add-next : goal.overflow_add-next
overflow_add-next c = record { fits = omega (arith, offset_small c.args.at.now c.args.words.now c.requires.can) }
