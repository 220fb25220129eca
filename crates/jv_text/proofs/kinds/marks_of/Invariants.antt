use Rattle.std.proofs.Common.{take}
use Rattle.jv_text.specs.Inside.Marks.{AreMarks}
use Rattle.jv_text.proofs.kinds.marks_of.Given as goal

abbrev pub invariant-loop-byte : goal.invariant-loop-byte
invariant-loop-byte l = AreMarks (take l.byte-index l.bytes) l.marks
