use Rattle.std.proofs.Common.{arith, ◌+◌, refl}
use Rattle.jv_code.specs.Insns.{Instruction}
use Rattle.jv_code.specs.Places.{IsAt}
use Rattle.jv_code.specs.declared.insn.Insn.TheVariants as insns
use Rattle.jv_interp_words.proofs.OpcodesStand.{offset_small, stands_at}
use Rattle.jv_interp_words.proofs.StepsStand.{can_work, went_to}
use Rattle.jv_interp_words.proofs.computing_steps.step_null.Goals as goal

pub push_null-requires : goal.push_null-requires
push_null-requires c =
    let at = c.args.at.now in
    let insn : Instruction = insns.NullConstant in
    let is : IsAt at.code.now at.pc insn = stands_at (insns.NullConstant) at c.args.words.now c.requires.can (c.requires.stands) (refl) in
    can_work insn (at.pc + 1) at c.args.words.now c.requires.can is refl

pub returns : goal.returns
returns c =
    let at = c.args.at.now in
    let insn : Instruction = insns.NullConstant in
    let is : IsAt at.code.now at.pc insn = stands_at (insns.NullConstant) at c.args.words.now c.requires.can (c.requires.stands) (refl) in
    went_to insn (at.pc + 1) at c.push_null.new.at c.args.words.now c.push_null.new.words is refl c.push_null.ensures.went
    c.push_null.ensures.stays c.push_null.auto.words

pub overflow_add-next : goal.overflow_add-next
overflow_add-next c = record { fits = omega (arith, offset_small c.args.at.now c.args.words.now c.requires.can) }
