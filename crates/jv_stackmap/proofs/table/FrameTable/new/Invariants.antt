use Rattle.std.proofs.Common.{◌≡◌}
use Rattle.jv_stackmap.specs.Inside.Steps.{with_pile, empty, initial_down}
use Rattle.jv_stackmap.proofs.table.FrameTable.new.Given as goal

abbrev pub invariant-loop-place : goal.invariant-loop-place
invariant-loop-place l = l.table ≡ with_pile (initial_down l.place) (empty l.widths)
