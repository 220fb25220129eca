use Rattle.std.proofs.Common.{◌≡◌}
use Rattle.std.specs.Prelude.{replicate}
use Rattle.jv_classes.specs.Inside.Marked.{cells_of}
use Rattle.jv_classes.proofs.key_marks.KeyMarks.new.Given as goal

abbrev pub invariant-loop : goal.invariant-loop
invariant-loop l = cells_of l.rows.items ≡ replicate l.counter (replicate l.classes 0)
