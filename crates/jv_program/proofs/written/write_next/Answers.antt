use Rattle.std.proofs.Common.{subst}
use Rattle.jv_program.specs.Written.{IsWritten}
use Rattle.jv_program.proofs.Writing.{front_more, written_more}
use Rattle.jv_program.proofs.written.write_next.Goals as goal

pub returns-in-Ok-clause-written : goal.returns-in-Ok-clause-written
returns-in-Ok-clause-written g c start done before =
    let old = g.O.Sink.contents c.args.to.now in
    let there = subst (λ r. IsWritten r start old done) c.in-Ok.is before in
    written_more start old (g.O.Sink.contents c.write_bytes.new.to) done c.args.bytes.now c.write_bytes.result there.0 c.write_bytes.ensures.whole
    c.write_bytes.ensures.cut

pub returns-in-Err-clause-written : goal.returns-in-Err-clause-written
returns-in-Err-clause-written g c start done before =
    (tt, front_more start (g.O.Sink.contents c.args.to.now) done c.args.bytes.now before.1)
