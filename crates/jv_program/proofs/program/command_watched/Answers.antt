use Rattle.std.proofs.Common.{Result, ap, map, sym, subst, ◌∙◌}
use Rattle.std.specs.Prelude.{string_bytes}
use Rattle.jv_program_base.specs.declared.outcome.Outcome.{Outcome}
use Rattle.jv_program.specs.declared.stop.Stop.{Stop}
use Rattle.jv_program.proofs.Ends.{IsToldAfter, ended, told_of}
use Rattle.jv_program.proofs.program.command_watched.Goals as goal
use Rattle.jv_program.proofs.program.command_watched.Goals.{in-Err, in_default}

pub returns-clause-ended : goal.returns-clause-ended
returns-clause-ended g c =
    let b0 = g.I.Read.remaining c.args.input.now in
    let b1 = g.I.Read.remaining c.carry_out-end.new.input in
    let old = g.O.Sink.contents c.args.out.now in
    let mid = g.O.Sink.contents c.carry_out-end.new.out in
    let new = g.O.Sink.contents c.match-end.out in
    let e0 = g.E.Sink.contents c.args.err.now in
    let e1 = g.E.Sink.contents c.carry_out-end.new.err in
    let e2 = g.E.Sink.contents c.match-end.err in
    let sure = g.E.Sink.SURE in
    let end = c.carry_out-end.result in
    let told : IsToldAfter sure mid new e1 e2 end = elim c.match-end.branch [
      | in-Err w ↦
          subst (λ (r : Result Outcome Stop). IsToldAfter sure mid new e1 e2 r) (sym w.in-Err.is)
          (told_of sure mid new e1 e2 (g.E.Sink.contents w.tell.new.err) _ w.tell.result (ap g.E.Sink.contents w.err-is)
          (λ not. ap g.O.Sink.contents (w.out-is ∙ w.tell.ensures.quiet not)) (λ asked. ap g.E.Sink.contents (w.tell.ensures.calm asked))
          w.tell.ensures.failure w.tell.ensures.output w.tell.ensures.sure)
      | in_default w ↦ subst (λ (r : Result Outcome Stop). IsToldAfter sure mid new e1 e2 r) (sym w.in_default.is)
          (ap g.O.Sink.contents w.out-is, ap g.E.Sink.contents w.err-is)
    ] in
    ended (g.F.Folders.disk c.args.folders.now) g.O.Sink.SURE sure (map string_bytes c.args.words.now) b0 b1 old mid new e0 e1 e2 end c.status_of.result
    c.carry_out-end.ensures.carried told c.status_of.ensures
