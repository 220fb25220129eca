-- What stands behind what was written are the bytes so far.
use Rattle.std.proofs.Common.{◌++◌, ℕ, List, Option, take}
use Rattle.std.specs.Prelude.{IsOk, IsTrue}
use Rattle.jv_program_base.specs.Escape.{escaped_text}
use Rattle.jv_program.specs.Written.{IsWritten}
use Rattle.jv_program.proofs.written.write_escaped.Given as goal

abbrev pub invariant-loop-byte : goal.invariant-loop-byte
invariant-loop-byte g l = record {
  written : (start : Option (List ℕ)) (done : List ℕ) → IsWritten l.fn.so_far start (g.O.Sink.contents l.fn.to) done
      → IsWritten l.written start (g.O.Sink.contents l.to) (done ++ escaped_text (take l.byte-index l.bytes));
  sure : IsTrue g.O.Sink.SURE → IsOk l.fn.so_far → IsOk l.written;
}
