-- What is wanted, at later offsets.
use Rattle.std.proofs.Common.{ℕ, ◌≤◌, arith}
use Rattle.jv_verify_types.specs.Mapped.{EntryTypes}
use Rattle.jv_verify_maps.specs.Words.{MapWords}
use Rattle.jv_verify_wants.proofs.Allowed.{allowed_later}
use Rattle.jv_verify_open.specs.Open.{AreWanting, OpenFrames}

pub later_wanting : (types : EntryTypes) (words : MapWords) (frames : OpenFrames) (offset later : ℕ) → offset ≤ later → AreWanting types words frames offset
    → AreWanting types words frames later
later_wanting types words frames offset later le wanting = record {
  wanted = λ at k on small opened after before. wanting.wanted at k on small opened (omega (arith, le, after)) before;
  only = λ k on item after wanted. wanting.only k on item (omega (arith, le, after)) wanted;
  allowed = allowed_later types.constants.types offset later frames.wants le wanting.allowed;
}
