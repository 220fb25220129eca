use Rattle.std.proofs.Common.{arith}
use Rattle.jv_text.proofs.Marked.{marks_more}
use Rattle.jv_text.proofs.kinds.marks_of.Goals as goal

pub loop-byte-preserved : goal.loop-byte-preserved
loop-byte-preserved c =
    rw c.mark_of-marks.ensures
    (marks_more c.args.bytes.now c.loop-byte.byte-index c.loop-byte.marks c.loop-byte-test.true (omega (arith, c.type_inv.bytes c.loop-byte.byte-index)) c.loop-byte.invariant)
