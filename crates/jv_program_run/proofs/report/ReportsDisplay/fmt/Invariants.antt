use Rattle.std.proofs.Common.{map, take}
use Rattle.std.specs.Fmt.{HasWritten, IsPlainFormatter}
use Rattle.jv_program_run.specs.Inside.Play.{told_of}
use Rattle.jv_program_run.specs.Report.{report_text}
use Rattle.jv_program_run.proofs.report.ReportsDisplay.fmt.Given as goal

abbrev pub invariant-loop-report : goal.invariant-loop-report
invariant-loop-report g l =
    IsPlainFormatter l.initial.f → HasWritten g.W.Write.write_str_gives l.initial.f (report_text l.self.places (map told_of (take l.report-index l.reports))) l.f
