-- What a list has at a place.
use Rattle.std.proofs.Common.{◌≡◌, ℕ, zero, suc, ◌<◌, ◌≤◌, List, [], ◌∷◌, length, Some, None, get_or, refl, sym, ap, arith}
use Rattle.std.specs.Prelude.{slice_get}

module _ {A : Type 0} where
  pub item_at : (xs : List A) (k : ℕ) (x : A) → k < length xs → x ≡ get_or xs k x → slice_get xs k ≡ Some x
  item_at [] k x less e = absurd (omega (arith, less))
  item_at (y ∷ ys) zero x less e = ap Some (sym e)
  item_at (y ∷ ys) (suc k) x less e = item_at ys k x (omega (arith, less)) e

  pub none_behind : (xs : List A) (k : ℕ) → length xs ≤ k → slice_get xs k ≡ None
  none_behind [] k less = refl
  none_behind (y ∷ ys) zero less = absurd (omega (arith, less))
  none_behind (y ∷ ys) (suc k) less = none_behind ys k (omega (arith, less))
