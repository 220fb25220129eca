use Rattle.std.proofs.Common.{◌≡◌, ◌∷◌, [], ◌++◌, ap, append_assoc, subst}
use Rattle.std.specs.Prelude.{codes}
use Rattle.jv_program_base.specs.Escape.{escaped_text}
use Rattle.jv_program.specs.Written.{IsWritten}
use Rattle.jv_program.proofs.Writing.{written_none}
use Rattle.jv_program.proofs.telling.tell_name.Goals as goal

pub returns-clause-written : goal.returns-clause-written
returns-clause-written g c =
    let e0 = g.E.Sink.contents c.args.err.now in
    let reason = c.args.reason.now in
    let front = codes "jvhost: " in
    let name = escaped_text c.args.name.now in
    let begun = c.write_next-begun.ensures.written e0 [] (written_none e0) in
    let named = c.write_escaped-named.ensures.written e0 front begun in
    let parted = c.write_next-parted.ensures.written e0 (front ++ name) named in
    let told = c.write_next-told.ensures.written e0 ((front ++ name) ++ codes ": ") parted in
    let all = c.write_next.ensures.written e0 (((front ++ name) ++ codes ": ") ++ reason) told in
    let same : ((((front ++ name) ++ codes ": ") ++ reason) ++ 10 ∷ []) ≡ (front ++ (name ++ codes ": " ++ reason) ++ 10 ∷ []) = simp append_assoc in
    subst (λ text. IsWritten c.write_next.result e0 (g.E.Sink.contents c.write_next.new.to) text) same all
