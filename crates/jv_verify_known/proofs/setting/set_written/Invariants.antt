use Rattle.std.proofs.Common.{◌≡◌, ◌⊎◌, ℕ, ◌*◌, ◌-◌, ◌≤◌, ◌<◌}
use Rattle.jv_verify_types.specs.Numbered.{with_locals}
use Rattle.jv_verify_known.specs.Known.{number_at, local_at, word_at}
use Rattle.jv_verify_known.specs.Inside.Setting.{Stay}
use Rattle.jv_verify_known.proofs.setting.set_written.Given as goal

abbrev pub invariant-loop-found : goal.invariant-loop-found
invariant-loop-found l = record {
  stay : Stay l.types l.initial.writes l.writes l.initial.frame.locals l.frame.locals;
  done : (k : ℕ) → k < l.fn.to → k < l.block * 16 → (local_at l.types l.frame.locals k ≡ word_at l.types l.words l.fn.place k)
      ⊎ ((number_at l.initial.writes k ≤ l.fn.since) × (local_at l.types l.frame.locals k ≡ local_at l.types l.initial.frame.locals k));
  same : l.frame ≡ with_locals l.frame.locals l.initial.frame;
}

abbrev pub decreases-loop-found : goal.decreases-loop-found
decreases-loop-found l = l.end - l.block
