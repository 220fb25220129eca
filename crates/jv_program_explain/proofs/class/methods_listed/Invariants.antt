use Rattle.std.specs.Prelude.{string_bytes}
use Rattle.jv_lines.specs.Lines.{line_at}
use Rattle.jv_program_explain.specs.Inside.Walked.{AreFirstListed}
use Rattle.jv_program_explain.proofs.class.methods_listed.Given as goal

abbrev pub invariant-loop-number : goal.invariant-loop-number
invariant-loop-number l = AreFirstListed l.class.types.world l.class.by (line_at l.lines) l.number (string_bytes l.text)
