use Rattle.std.proofs.Common.{take}
use Rattle.jv_verify_pass.specs.Inside.Changes.{is_written}
use Rattle.jv_verify_pass.specs.Inside.Seen.{NotesWrites}
use Rattle.jv_verify_pass.proofs.step.note_writes.Given as goal

abbrev pub invariant-loop-k : goal.invariant-loop-k
invariant-loop-k l = NotesWrites (is_written (take l.k l.copies)) l.fn.known l.known
