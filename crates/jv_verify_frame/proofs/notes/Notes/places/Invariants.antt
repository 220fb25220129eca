use Rattle.jv_verify_frame.proofs.Noting.{Walked}
use Rattle.jv_verify_frame.proofs.notes.Notes.places.Given as goal

abbrev pub invariant-loop-left : goal.invariant-loop-left
invariant-loop-left l = Walked l.self-inside.notes.items l.items l.object l.places.items l.left

abbrev pub decreases-loop-left : goal.decreases-loop-left
decreases-loop-left l = l.left
