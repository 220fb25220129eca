-- Lists whose keys rise, and a search for a key among them.
use Rattle.std.proofs.Common.{◌≡◌, ◌≢◌, ℕ, zero, suc, ◌+◌, ◌<◌, ◌≤◌, List, [], ◌∷◌, ◌++◌, length, get_or, Option, Result, Ok, Err, sym, inl, inr, arith}
use Rattle.std.specs.Prelude.{◌⊎◌, IfSome, IfNone}
use Rattle.std.specs.List.{All}
use Rattle.std.specs.List.Sorted.{IsSearchInRange, IsBinarySearchResult, IsNonDecreasingBy}
use Rattle.std.specs.Ordering.{nat_cmp, ordering_index}
use Rattle.std.specs.Result.{result_ok}
use Rattle.std.proofs.lemmas.Cmp.{ranked}
use Rattle.std.proofs.lemmas.Bool.{cases_lt}
use Rattle.std.proofs.lemmas.Bool.Decides.{nat_tests}
use Rattle.jv_stackmap.specs.Inside.Nodes.{RiseBy}

pub rise_more : {X : Type 0} (key : X → ℕ) (from base : ℕ) (xs : List X) (x : X) → RiseBy key from xs base → base ≤ key x → RiseBy key from (xs ++ x ∷ []) (key x + 1)
rise_more key from base [] x h le = (omega arith, omega arith)
rise_more key from base (first ∷ xs) x h le = (h.0, rise_more key (key first + 1) base xs x h.1 le)

pub rise_up : {X : Type 0} (key : X → ℕ) (from base most : ℕ) (xs : List X) → RiseBy key from xs base → base ≤ most → RiseBy key from xs most
rise_up key from base most [] h le = omega arith
rise_up key from base most (first ∷ xs) h le = (h.0, rise_up key (key first + 1) base most xs h.1 le)

pub lower : {X : Type 0} (key : X → ℕ) (from base : ℕ) (xs : List X) (j : ℕ) (d : X) → RiseBy key from xs base → j < length xs → from ≤ key (get_or xs j d)
lower key from base [] j d h lt = absurd (omega arith)
lower key from base (x ∷ xs) zero d h lt = h.0
lower key from base (x ∷ xs) (suc j) d h lt = omega (arith, h.0, lower key (key x + 1) base xs j d h.1 (omega arith))

rises : {X : Type 0} (key : X → ℕ) (from base : ℕ) (xs : List X) (i j : ℕ) (d : X) → RiseBy key from xs base → i ≤ j → j < length xs → key (get_or xs i d) ≤ key (get_or xs j d)
rises key from base [] i j d h le lt = absurd (omega arith)
rises key from base (x ∷ xs) zero zero d h le lt = omega arith
rises key from base (x ∷ xs) zero (suc j) d h le lt = omega (arith, lower key (key x + 1) base xs j d h.1 (omega arith))
rises key from base (x ∷ xs) (suc i) zero d h le lt = absurd (omega arith)
rises key from base (x ∷ xs) (suc i) (suc j) d h le lt = rises key (key x + 1) base xs i j d h.1 (omega arith) (omega arith)

comparisons_rise : {X : Type 0} (key : X → ℕ) (base : ℕ) (xs : List X) (k : ℕ) → RiseBy key 0 xs base → IsNonDecreasingBy (λ x. ordering_index (nat_cmp (key x) k)) xs
comparisons_rise key base xs k h i j d le lt =
    let rise : key (get_or xs i d) ≤ key (get_or xs j d) = rises key 0 base xs i j d h le lt in
    grind (arith, nat_tests)

apart : (j at k key : ℕ) → (j < at → key < k) → (at ≤ j → k < key) → key ≡ k → ⊥
apart j at k key below above is = by_side (cases_lt j at)
  where
    by_side : (j < at) ⊎ (at ≤ j) → ⊥
    by_side (inl lt) = omega (arith, below lt)
    by_side (inr le) = omega (arith, above le)

-- what a search for a key finds
pub record IsSought {X : Type 0} (key : X → ℕ) (xs : List X) (k : ℕ) (o : Option ℕ) : Type 0 where
  pub found : IfSome o (λ at. (at < length xs) × ((d : X) → key (get_or xs at d) ≡ k))
  pub none : IfNone o (All (λ x. key x ≢ k) xs)

pub sought : {X : Type 0} (key : X → ℕ) (base : ℕ) (xs : List X) (k : ℕ) → RiseBy key 0 xs base → (r : Result ℕ ℕ) → IsSearchInRange r (length xs) → IsBinarySearchResult (λ x. nat_cmp (key x) k) xs r
    → IsSought key xs k (result_ok r)
sought key base xs k h (Ok at) lt equal = record {
  found = (lt, λ d. ranked _ k _ (sym (equal d)));
  none = tt;
}
sought key base xs k h (Err at) le parted = record {
  found = tt;
  none = λ j d lt is.
      let both = parted (comparisons_rise key base xs k h) in
      apart j at k (key (get_or xs j d)) (λ under. ranked _ k _ (sym (both.0 j d (omega arith) under))) (λ over. ranked _ k _ (sym (both.1 j d over lt))) is;
}
