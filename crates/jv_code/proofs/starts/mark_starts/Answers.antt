use Rattle.std.proofs.Common.{arith}
use Rattle.jv_code.proofs.Marks.{Marked-blank, Marked-more, Marked-all}
use Rattle.jv_code.proofs.starts.mark_starts.Goals as goal

pub loop-pc-init : goal.loop-pc-init
loop-pc-init c = Marked-blank _ _ c.size-end.ensures.first c.requires.blank

pub loop-pc-preserved : goal.loop-pc-preserved
loop-pc-preserved c =
    let insn = c.end_of_insn-pc.ensures.insn in
    Marked-more _ c.loop-pc.marks c.loop-pc.pc _ insn.0 insn.1 insn.2 c.end_of_insn-pc.ensures.goes_on (grind arith) c.loop-pc.invariant

pub returns : goal.returns
returns c = Marked-all _ _ _ (omega arith) c.loop-pc.invariant
