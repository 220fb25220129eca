use Rattle.std.proofs.Common.{◌≡◌, ◌≤◌, length, drop}
use Rattle.jv_lookups.specs.Inside.Keys.{AreAsked}
use Rattle.jv_lookups.proofs.Marking.{AreWantedMarked}
use Rattle.jv_lookups.proofs.above.ask.Given as goal

abbrev pub invariant-loop-end : goal.invariant-loop-end
invariant-loop-end l = record {
  within : l.end ≤ length l.chain;
  asked : AreAsked l.packages l.row l.many l.asked (drop l.end l.chain);
  wanted : AreWantedMarked l.packages l.row (drop l.end l.chain) l.marks;
  marks_many : length l.marks ≡ length l.fn.marks;
  asked_many : length l.asked ≡ length l.fn.asked;
}

abbrev pub decreases-loop-end : goal.decreases-loop-end
decreases-loop-end l = l.end
