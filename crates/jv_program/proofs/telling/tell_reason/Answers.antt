use Rattle.std.proofs.Common.{◌∷◌, [], ◌++◌, append_assoc, subst}
use Rattle.std.specs.Prelude.{codes}
use Rattle.jv_program.specs.Written.{IsWritten}
use Rattle.jv_program.proofs.Writing.{written_none}
use Rattle.jv_program.proofs.telling.tell_reason.Goals as goal

pub returns-clause-written : goal.returns-clause-written
returns-clause-written g c =
    let e0 = g.E.Sink.contents c.args.err.now in
    let reason = c.args.reason.now in
    let begun = c.write_next-begun.ensures.written e0 [] (written_none e0) in
    let told = c.write_next-told.ensures.written e0 (codes "jvhost: ") begun in
    subst (λ text. IsWritten c.write_next.result e0 (g.E.Sink.contents c.write_next.new.to) text) (append_assoc (codes "jvhost: ") reason (10 ∷ []))
    (c.write_next.ensures.written e0 (codes "jvhost: " ++ reason) told)
