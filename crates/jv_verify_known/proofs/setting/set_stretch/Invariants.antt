use Rattle.std.proofs.Common.{◌≡◌, ◌≤◌}
use Rattle.jv_verify_types.specs.Numbered.{with_locals}
use Rattle.jv_verify_known.specs.Inside.Setting.{type_in, AreSet}
use Rattle.jv_verify_known.proofs.setting.set_stretch.Given as goal

abbrev pub invariant-loop-at : goal.invariant-loop-at
invariant-loop-at l = record {
  least : l.fn.from ≤ l.at;
  within : l.at ≤ l.fn.to;
  set : AreSet l.types l.initial.writes l.writes l.initial.frame.locals l.frame.locals (type_in l.types l.stretch l.fn.to) l.at l.fn.to;
  same : l.frame ≡ with_locals l.frame.locals l.initial.frame;
}

abbrev pub decreases-loop-at : goal.decreases-loop-at
decreases-loop-at l = l.at
