use Rattle.std.proofs.Common.{ap, map}
use Rattle.std.specs.Prelude.{string_bytes}
use Rattle.jv_program.proofs.Ends.{early_result, written}
use Rattle.jv_program.proofs.program.carry_out.Goals as goal

pub returns-clause-carried : goal.returns-clause-carried
returns-clause-carried g c =
    let done = c.write_report.ensures in
    let told = c.tell_beside.ensures in
    written (g.F.Folders.disk c.args.folders.now) g.O.Sink.SURE g.E.Sink.SURE (map string_bytes c.args.words.now) (g.I.Read.remaining c.args.input.now)
    (g.I.Read.remaining c.outcome_for-made.new.input) (g.O.Sink.contents c.args.out.now) (g.O.Sink.contents c.write_report.new.to) (g.E.Sink.contents c.args.err.now)
    (g.E.Sink.contents c.tell_beside.new.err) c.in_ok-outcome.outcome c.write_report.result (c.in_ok-outcome.ensures {u = tt}).ok told.told told.front
    (λ none. ap g.E.Sink.contents (told.quiet none)) done.whole done.same done.cut done.lost done.sure

pub returns-in_err-outcome-clause-carried : goal.returns-in_err-outcome-clause-carried
returns-in_err-outcome-clause-carried g c =
    early_result (g.F.Folders.disk c.args.folders.now) g.O.Sink.SURE g.E.Sink.SURE (map string_bytes c.args.words.now) (g.I.Read.remaining c.args.input.now)
    (g.I.Read.remaining c.outcome_for-made.new.input) (g.O.Sink.contents c.args.out.now) (g.E.Sink.contents c.args.err.now) c.from_residual.result
    c.in_err-outcome.field-0.0 c.from_residual.ensures.1 (c.in_err-outcome.ensures {u = tt}).err
