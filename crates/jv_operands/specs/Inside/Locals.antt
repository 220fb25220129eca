-- What is wanted of a local variable.
use Rattle.std.specs.Prelude.{ℕ}
use Rattle.jv_operands.specs.declared.local.LocalWant.{LocalWant}
use Rattle.jv_operands.specs.Seen.{seen_want}
use Rattle.jv_operands.specs.Wants.{FrameWant}

abbrev pub seen_local : LocalWant → ℕ × FrameWant
seen_local l = (l.index, seen_want l.want)
