use Rattle.std.proofs.Common.{◌<◌}
use Rattle.jv_verify_frame.specs.Inside.Noted.{AreNotedWhere}
use Rattle.jv_verify_frame.proofs.notes.Notes.make.Given as goal

abbrev pub invariant-loop-place : goal.invariant-loop-place
invariant-loop-place l = AreNotedWhere (λ k. k < l.place) l.self l.items
