-- What stands in a list with one more item at the end.
use Rattle.std.proofs.Common.{◌≡◌, ℕ, zero, suc, List, [], ◌∷◌, ◌++◌, length, Some, refl, inl, inr, ap}
use Rattle.std.specs.Prelude.{◌⊎◌, slice_get}

pub in_two_parts : {X : Type 0} → (xs : List X) (y z : X) (k : ℕ) → slice_get (xs ++ y ∷ []) k ≡ Some z → (slice_get xs k ≡ Some z) ⊎ ((k ≡ length xs) × (y ≡ z))
in_two_parts [] y z zero e = inr (refl, same e)
  where
    same : Some y ≡ Some z → y ≡ z
    same e = cc
in_two_parts [] y z (suc k) e = absurd (past k e)
  where
    past : (k : ℕ) → slice_get [] k ≡ Some z → ⊥
    past zero e = absurd cc
    past (suc k) e = absurd cc
in_two_parts (x ∷ xs) y z zero e = inl e
in_two_parts (x ∷ xs) y z (suc k) e = by_part (in_two_parts xs y z k e)
  where
    by_part : (slice_get xs k ≡ Some z) ⊎ ((k ≡ length xs) × (y ≡ z)) → (slice_get xs k ≡ Some z) ⊎ ((suc k ≡ suc (length xs)) × (y ≡ z))
    by_part (inl e) = inl e
    by_part (inr h) = inr (ap suc h.0, h.1)
