use Rattle.std.proofs.Common.{take, length}
use Rattle.std.specs.Fmt.{HasWritten, IsPlainFormatter}
use Rattle.jv_program_run.proofs.Lines.{lines_of}
use Rattle.jv_program_run.proofs.report.VerdictLinesDisplay.fmt.Given as goal

abbrev pub invariant-loop-name : goal.invariant-loop-name
invariant-loop-name g l =
    IsPlainFormatter l.initial.f
    → HasWritten g.W.Write.write_str_gives l.initial.f
    (lines_of (take (length l.yielded) l.self.names.now) (take (length l.yielded) l.self.verdicts.now)) l.f
