use Rattle.std.proofs.Common.{◌≡◌, ◌<◌, ℕ, true}
use Rattle.jv_verify_frame.specs.Inside.Noted.{is_among, has_at}
use Rattle.jv_verify_frame.proofs.notes.places_below.Given as goal

abbrev pub invariant-loop-place : goal.invariant-loop-place
invariant-loop-place l = (k : ℕ) → k < l.place → has_at l.object l.items k ≡ true → is_among l.places.items k ≡ true
