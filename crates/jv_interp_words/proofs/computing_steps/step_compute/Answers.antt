use Rattle.std.proofs.Common.{arith, ℕ, ◌+◌, sym, ap}
use Rattle.jv_code.specs.Insns.{Instruction}
use Rattle.jv_code.specs.Places.{IsAt}
use Rattle.jv_code.specs.declared.insn.Insn.TheVariants as insns
use Rattle.jv_interp_words.proofs.OpcodesStand.{offset_small, stands_at}
use Rattle.jv_interp_words.proofs.StepsStand.{can_work, went_to}
use Rattle.jv_interp_words.proofs.computing_steps.step_compute.Goals as goal

pub compute-requires : goal.compute-requires
compute-requires c =
    let at = c.args.at.now in
    let insn : Instruction = insns.Compute c.args.what in
    let is : IsAt at.code.now at.pc insn = stands_at (insns.Compute c.args.what) at c.args.words.now c.requires.can (c.requires.stands) (c.requires.fits) in
    can_work insn (at.pc + 1) at c.args.words.now c.requires.can is (ap (λ (n : ℕ). at.pc + n) (sym c.requires.size))

pub returns : goal.returns
returns c =
    let at = c.args.at.now in
    let insn : Instruction = insns.Compute c.args.what in
    let is : IsAt at.code.now at.pc insn = stands_at (insns.Compute c.args.what) at c.args.words.now c.requires.can (c.requires.stands) (c.requires.fits) in
    went_to insn (at.pc + 1) at c.compute.new.at c.args.words.now c.compute.new.words is (ap (λ (n : ℕ). at.pc + n) (sym c.requires.size)) c.compute.ensures.went
    c.compute.ensures.stays c.compute.auto.words

pub overflow_add-next : goal.overflow_add-next
overflow_add-next c = record { fits = omega (arith, offset_small c.args.at.now c.args.words.now c.requires.can) }
