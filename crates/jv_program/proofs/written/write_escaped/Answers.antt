use Rattle.std.proofs.Common.{◌++◌, append-nil, subst, sym, take}
use Rattle.jv_program_base.specs.Escape.{escaped_text}
use Rattle.jv_program.specs.Written.{IsWritten}
use Rattle.jv_program.proofs.Writing.{escaped_more}
use Rattle.jv_program.proofs.written.write_escaped.Goals as goal

pub loop-byte-init : goal.loop-byte-init
loop-byte-init g c = record {
  written = λ start done before.
      subst (λ text. IsWritten c.args.so_far start (g.O.Sink.contents c.args.to.now) text) (sym (append-nil done)) before;
  sure = λ yes ok. ok;
}

pub loop-byte-preserved : goal.loop-byte-preserved
loop-byte-preserved g c =
    let bytes = c.args.bytes.now in
    let k = c.loop-byte.byte-index in
    let made = c.escape_of-len.result in
    record {
      written = λ start done before.
          subst (λ text. IsWritten c.write_next-written.result start (g.O.Sink.contents c.write_next-written.new.to) text)
          (escaped_more done bytes (take made.1 made.0) k c.loop-byte-test.true c.escape_of-len.ensures.text)
          (c.write_next-written.ensures.written start (done ++ escaped_text (take k bytes)) (c.loop-byte.invariant.written start done before));
      sure = λ yes ok. c.write_next-written.ensures.sure yes (c.loop-byte.invariant.sure yes ok);
    }
