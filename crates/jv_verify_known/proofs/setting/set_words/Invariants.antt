use Rattle.std.proofs.Common.{◌≡◌, ◌≤◌, min}
use Rattle.jv_verify_types.specs.Numbered.{with_locals}
use Rattle.jv_verify_known.specs.Known.{word_at}
use Rattle.jv_verify_known.specs.Inside.Setting.{AreSet}
use Rattle.jv_verify_known.proofs.setting.set_words.Given as goal

abbrev pub invariant-loop-at : goal.invariant-loop-at
invariant-loop-at l = record {
  least : min l.fn.from l.fn.to ≤ l.at;
  within : l.at ≤ l.fn.to;
  set : AreSet l.types l.initial.writes l.writes l.initial.frame.locals l.frame.locals (word_at l.types l.words l.fn.place) l.at l.fn.to;
  same : l.frame ≡ with_locals l.frame.locals l.initial.frame;
}

abbrev pub decreases-loop-at : goal.decreases-loop-at
decreases-loop-at l = l.at
