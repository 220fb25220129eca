use Rattle.std.proofs.Common.{◌-◌, ◌≤◌}
use Rattle.jv_verify_open.specs.Inside.Finding.{AreMoreWanted}
use Rattle.jv_verify_open.proofs.wanting.want_words.Given as goal

abbrev pub invariant-loop-left : goal.invariant-loop-left
invariant-loop-left l = (l.left ≤ l.words.to) × AreMoreWanted l.at.types.now l.at.words.now l.at.offset l.words l.left l.initial.wants l.wants

abbrev pub decreases-loop-left : goal.decreases-loop-left
decreases-loop-left l = l.left - l.words.from
