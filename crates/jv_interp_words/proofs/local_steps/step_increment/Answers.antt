use Rattle.std.proofs.Common.{arith, ℤ, ◌+◌, to_z, of_z, ◌++◌, refl, sym, subst}
use Rattle.std.proofs.lemmas.Int.{to_z-of_z}
use Rattle.std.specs.Int.{w32}
use Rattle.jv_format.specs.Format.{byte}
use Rattle.jv_code.specs.Insns.{Instruction}
use Rattle.jv_code.specs.Numbers.{signed8}
use Rattle.jv_code.specs.Places.{IsAt}
use Rattle.jv_code.specs.declared.insn.Insn.TheVariants as insns
use Rattle.jv_code.specs.declared.kinds.IncrementForm.TheVariants as increment_forms
use Rattle.jv_interp_words.proofs.OpcodesStand.{offset_small, stands_at, opcode_and, join, next_at, both_fit}
use Rattle.jv_interp_words.proofs.StepsStand.{can_work, went_to}
use Rattle.jv_interp_words.proofs.local_steps.step_increment.Goals as goal

pub increment-requires : goal.increment-requires
increment-requires c =
    let at = c.args.at.now in
    let index = c.index_at-index in
    let by = c.addend_at-by in
    let same = to_z-of_z w32 by.result (record { sfits = by.type_inv }) in
    let insn : Instruction = insns.Increment index.result (to_z w32 (of_z w32 by.result)) increment_forms.Byte in
    let is : IsAt at.code.now at.pc insn = subst (λ (z : ℤ). IsAt at.code.now at.pc (insns.Increment index.result z increment_forms.Byte)) (sym same)
    (stands_at (insns.Increment index.result by.result increment_forms.Byte) at c.args.words.now c.requires.can
    (opcode_and at.code.now at.pc 132 (byte.spelling index.result ++ signed8.spelling by.result) c.requires.opcode
    (join at.code.now (at.pc + 1) (byte.spelling index.result) (signed8.spelling by.result) index.ensures.stands
    (next_at at.code.now at.pc (signed8.spelling by.result) by.ensures.stands)))
    (both_fit (byte.fits index.result) (signed8.fits by.result) index.ensures.fits by.ensures.fits)) in
    can_work insn (at.pc + 3) at c.args.words.now c.requires.can is refl

pub returns : goal.returns
returns c =
    let at = c.args.at.now in
    let index = c.index_at-index in
    let by = c.addend_at-by in
    let same = to_z-of_z w32 by.result (record { sfits = by.type_inv }) in
    let insn : Instruction = insns.Increment index.result (to_z w32 (of_z w32 by.result)) increment_forms.Byte in
    let is : IsAt at.code.now at.pc insn = subst (λ (z : ℤ). IsAt at.code.now at.pc (insns.Increment index.result z increment_forms.Byte)) (sym same)
    (stands_at (insns.Increment index.result by.result increment_forms.Byte) at c.args.words.now c.requires.can
    (opcode_and at.code.now at.pc 132 (byte.spelling index.result ++ signed8.spelling by.result) c.requires.opcode
    (join at.code.now (at.pc + 1) (byte.spelling index.result) (signed8.spelling by.result) index.ensures.stands
    (next_at at.code.now at.pc (signed8.spelling by.result) by.ensures.stands)))
    (both_fit (byte.fits index.result) (signed8.fits by.result) index.ensures.fits by.ensures.fits)) in
    went_to insn (at.pc + 3) at c.increment.new.at c.args.words.now c.increment.new.words is refl c.increment.ensures.went
    c.increment.ensures.stays c.increment.auto.words

pub overflow_add-next : goal.overflow_add-next
overflow_add-next c = record { fits = omega (arith, offset_small c.args.at.now c.args.words.now c.requires.can) }
