use Rattle.std.proofs.Common.{◌≡◌, length}
use Rattle.jv_program_explain.proofs.lines.lines_of.Given as goal

abbrev pub invariant-loop-place : goal.invariant-loop-place
invariant-loop-place l = length l.lines.items ≡ l.place
