use Rattle.std.proofs.Common.{map, take}
use Rattle.std.specs.Prelude.{string_bytes}
use Rattle.std.specs.Fmt.{HasWritten, IsPlainFormatter}
use Rattle.jv_limits.specs.Bytes.{bytes_of}
use Rattle.jv_program_explain.specs.Text.{explain_text}
use Rattle.jv_program_explain.proofs.report.PartsDisplay.fmt.Given as goal

abbrev pub invariant-loop-place : goal.invariant-loop-place
invariant-loop-place g l =
    IsPlainFormatter l.initial.f
    → HasWritten g.W.Write.write_str_gives l.initial.f
    (explain_text (take l.place (map bytes_of l.self.names.now)) (take l.place l.self.verdicts.now) (take l.place (map string_bytes l.self.said.now))) l.f
