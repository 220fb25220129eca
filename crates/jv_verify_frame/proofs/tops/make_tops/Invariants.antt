use Rattle.std.proofs.Common.{◌≡◌, ◌≤◌, length}
use Rattle.jv_verify_frame.specs.Inside.Tops.{AreTops}
use Rattle.jv_verify_frame.proofs.tops.make_tops.Given as goal

abbrev pub invariant-loop-left : goal.invariant-loop-left
invariant-loop-left l = (length l.items ≡ length l.fn.items) × (l.left ≤ length l.items) × AreTops l.left l.items

abbrev pub decreases-loop-left : goal.decreases-loop-left
decreases-loop-left l = l.left
