use Rattle.std.proofs.Common.{◌≡◌, ℕ, length, take, slice_get}
use Rattle.jv_verify_frame.specs.Inside.Noted.{is_among}
use Rattle.jv_verify_frame.specs.Inside.Swapped.{swapped}
use Rattle.jv_verify_frame.proofs.Noting.{changed_if}
use Rattle.jv_verify_frame.proofs.objects.replace_at_all.Given as goal

abbrev pub invariant-loop-k : goal.invariant-loop-k
invariant-loop-k l =
    (length l.items ≡ length l.fn.items)
    × ((p : ℕ) → slice_get l.items p ≡ changed_if (swapped l.object l.by) (is_among (take l.k l.places) p) (slice_get l.fn.items p))
