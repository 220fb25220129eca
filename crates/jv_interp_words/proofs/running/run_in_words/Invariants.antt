use Rattle.std.proofs.Common.{◌-◌, ◌≤◌}
use Rattle.jv_interp_words.specs.Running.{RunsTo}
use Rattle.jv_interp_words.proofs.running.run_in_words.Given as goal

abbrev pub invariant-loop-left : goal.invariant-loop-left
invariant-loop-left l = record {
  few : l.left ≤ l.n;
  ran : RunsTo (l.n - l.left) l.fn.at l.fn.words l.now l.words;
}

abbrev pub decreases-loop-left : goal.decreases-loop-left
decreases-loop-left l = l.left
