use Rattle.std.specs.Fmt.{HasWritten, IsPlainFormatter}
use Rattle.jv_shown.specs.Frames.{brackets_text}
use Rattle.jv_shown.proofs.frame.ShownBracketsDisplay.fmt.Given as goal

abbrev pub invariant-loop : goal.invariant-loop
invariant-loop g l = IsPlainFormatter l.initial.f → HasWritten g.W.Write.write_str_gives l.initial.f (brackets_text l.counter) l.f
