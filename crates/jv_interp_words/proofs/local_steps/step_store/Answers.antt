use Rattle.std.proofs.Common.{arith, ◌+◌, refl}
use Rattle.jv_format.specs.Format.{byte}
use Rattle.jv_code.specs.Insns.{Instruction}
use Rattle.jv_code.specs.Opcodes.{store_opcode}
use Rattle.jv_code.specs.Places.{IsAt}
use Rattle.jv_code.specs.declared.insn.Insn.TheVariants as insns
use Rattle.jv_code.specs.declared.kinds.LocalForm.TheVariants as local_forms
use Rattle.jv_interp_words.proofs.OpcodesStand.{offset_small, stands_at, opcode_and}
use Rattle.jv_interp_words.proofs.StepsStand.{can_work, went_to}
use Rattle.jv_interp_words.proofs.local_steps.step_store.Goals as goal

pub store-requires : goal.store-requires
store-requires c =
    let at = c.args.at.now in
    let index = c.index_at-index in
    let insn : Instruction = insns.Store c.args.kind index.result local_forms.Byte in
    let is : IsAt at.code.now at.pc insn = stands_at (insns.Store c.args.kind index.result local_forms.Byte) at c.args.words.now c.requires.can
    (opcode_and at.code.now at.pc (store_opcode c.args.kind) (byte.spelling index.result) c.requires.opcode index.ensures.stands)
    (index.ensures.fits) in
    can_work insn (at.pc + 2) at c.args.words.now c.requires.can is refl

pub returns : goal.returns
returns c =
    let at = c.args.at.now in
    let index = c.index_at-index in
    let insn : Instruction = insns.Store c.args.kind index.result local_forms.Byte in
    let is : IsAt at.code.now at.pc insn = stands_at (insns.Store c.args.kind index.result local_forms.Byte) at c.args.words.now c.requires.can
    (opcode_and at.code.now at.pc (store_opcode c.args.kind) (byte.spelling index.result) c.requires.opcode index.ensures.stands)
    (index.ensures.fits) in
    went_to insn (at.pc + 2) at c.store.new.at c.args.words.now c.store.new.words is refl c.store.ensures.went
    c.store.ensures.stays c.store.auto.words

pub overflow_add-next : goal.overflow_add-next
overflow_add-next c = record { fits = omega (arith, offset_small c.args.at.now c.args.words.now c.requires.can) }
