use Rattle.std.proofs.Common.{◌≡◌, ◌≤◌, ◌*◌, length, min}
use Rattle.jv_stackmap.specs.declared.verification.VerificationTypeOf.TheVariants as variants
use Rattle.jv_verify_types.specs.Numbered.{with_locals}
use Rattle.jv_verify_types.specs.Mapped.{EntryTypes}
use Rattle.jv_verify_known.specs.Inside.Setting.{AreSet}
use Rattle.jv_verify_known.proofs.setting.set_tops.Given as goal

abbrev pub invariant-loop-at : goal.invariant-loop-at
invariant-loop-at l = record {
  least : min l.fn.from l.fn.to ≤ l.at;
  within : l.at ≤ l.fn.to;
  set : (types : EntryTypes) → AreSet types l.initial.writes l.writes l.initial.frame.locals l.frame.locals (λ k. variants.Top) l.at l.fn.to;
  blocks : length l.frame.locals ≤ length l.writes.numbers * 16;
  same : l.frame ≡ with_locals l.frame.locals l.initial.frame;
}

abbrev pub decreases-loop-at : goal.decreases-loop-at
decreases-loop-at l = l.at
