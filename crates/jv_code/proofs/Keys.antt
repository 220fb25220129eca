-- A key among pairs whose keys rise.
use Rattle.std.proofs.Common.{◌≡◌, ℕ, zero, suc, ◌+◌, ◌<◌, ◌≤◌, Bool, true, false, cond, List, [], ◌∷◌, Some, None, length, refl, sym, ap, subst, ◌∙◌, inl, inr, arith}
use Rattle.std.specs.Prelude.{ℤ, ◌<ℤ◌, ◌≤ℤ◌, IsTrue, int_lt, slice_get, find}
use Rattle.std.specs.Ordering.{int_eq}
use Rattle.std.specs.Option.{option_map}
use Rattle.std.proofs.lemmas.Bool.{and_parts, cases_eq, cases_lt}
use Rattle.std.proofs.lemmas.Bool.Decides.{Decides-int_eq}
use Rattle.std.proofs.lemmas.Int.{ints}
use Rattle.std.proofs.lemmas.Option.{slice_get_within}
use Rattle.jv_code.specs.Switches.{has_key, pair_distance, rise_above, keys_rise, distance_for}

lt_from : (x y : ℤ) → IsTrue (int_lt x y) → x <ℤ y
lt_from x y h = omega (arith, ints)

-- each of the keys is above the number
above : (key : ℤ) (pairs : List (ℤ × ℤ)) (k : ℕ) (p : ℤ × ℤ) → IsTrue (rise_above key pairs) → slice_get pairs k ≡ Some p → key <ℤ p.0
above key [] k p h e = absurd cc
above key (q ∷ pairs) zero p h e =
    let same : q ≡ p = cc in
    let less = lt_from key q.0 (and_parts (int_lt key q.0) (rise_above q.0 pairs) h).0 in
    subst (λ (r : ℤ × ℤ). key <ℤ r.0) same less
above key (q ∷ pairs) (suc k) p h e =
    let parts = and_parts (int_lt key q.0) (rise_above q.0 pairs) h in
    let one = lt_from key q.0 parts.0 in
    let more = above q.0 pairs k p parts.1 e in
    omega (arith, ints)

rest_rises : (q : ℤ × ℤ) (pairs : List (ℤ × ℤ)) → IsTrue (keys_rise (q ∷ pairs)) → IsTrue (keys_rise pairs)
rest_rises q [] h = refl
rest_rises q (p ∷ pairs) h = (and_parts (int_lt q.0 p.0) (rise_above p.0 pairs) h).1

pub ordered : (pairs : List (ℤ × ℤ)) (i j : ℕ) (p q : ℤ × ℤ) → IsTrue (keys_rise pairs) → i < j → slice_get pairs i ≡ Some p → slice_get pairs j ≡ Some q → p.0 <ℤ q.0
ordered [] i j p q h lt e f = absurd cc
ordered (x ∷ pairs) i zero p q h lt e f = absurd (omega (arith, lt))
ordered (x ∷ pairs) zero (suc j) p q h lt e f =
    let same : x ≡ p = cc in
    subst (λ (r : ℤ × ℤ). r.0 <ℤ q.0) same (above x.0 pairs j q h f)
ordered (x ∷ pairs) (suc i) (suc j) p q h lt e f = ordered pairs i j p q (rest_rises x pairs h) (omega (arith, lt)) e f

differs : (x y : ℤ) (b : Bool) → int_eq x y ≡ b → x <ℤ y → int_eq x y ≡ false
differs x y true e lt = let same : x ≡ y = (Decides-int_eq x y).0 e in absurd (omega (arith, ints))
differs x y false e lt = e

-- the pair at a place is the one that is found
pub found_at : (pairs : List (ℤ × ℤ)) (k : ℕ) (p : ℤ × ℤ) → IsTrue (keys_rise pairs) → slice_get pairs k ≡ Some p → find (has_key p.0) pairs ≡ Some p
found_at [] k p h e = absurd cc
found_at (q ∷ pairs) zero p h e =
    let same : q ≡ p = cc in
    let is : int_eq q.0 p.0 ≡ true = (Decides-int_eq q.0 p.0).1 (ap (λ (r : ℤ × ℤ). r.0) same) in
    ap (λ (b : Bool). cond b (Some q) (find (has_key p.0) pairs)) is ∙ ap (λ (r : ℤ × ℤ). Some r) same
found_at (q ∷ pairs) (suc k) p h e =
    let no_key : int_eq q.0 p.0 ≡ false = differs q.0 p.0 _ refl (above q.0 pairs k p h e) in
    ap (λ (b : Bool). cond b (Some q) (find (has_key p.0) pairs)) no_key ∙ found_at pairs k p (rest_rises q pairs h) e

not_found : (key : ℤ) (pairs : List (ℤ × ℤ)) → ((k : ℕ) (p : ℤ × ℤ) → slice_get pairs k ≡ Some p → int_eq p.0 key ≡ false) → find (has_key key) pairs ≡ None
not_found key [] h = refl
not_found key (q ∷ pairs) h =
    ap (λ (b : Bool). cond b (Some q) (find (has_key key) pairs)) (h 0 q refl) ∙ not_found key pairs (λ k p e. h (suc k) p e)

-- the keys before low are below the key that is looked for, and those from high on are above it
pub record Searched (pairs : List (ℤ × ℤ)) (key : ℤ) (low high : ℕ) : Type 0 where
  pub below : (k : ℕ) (p : ℤ × ℤ) → slice_get pairs k ≡ Some p → k < low → p.0 <ℤ key
  pub above : (k : ℕ) (p : ℤ × ℤ) → slice_get pairs k ≡ Some p → high ≤ k → key <ℤ p.0
  pub within : high ≤ length pairs

pub Searched-all : (pairs : List (ℤ × ℤ)) (key : ℤ) (count : ℕ) → length pairs ≡ count → Searched pairs key 0 count
Searched-all pairs key count is = record {
  below = λ k p e lt. absurd (omega (arith, lt));
  above = λ k p e le. absurd (omega (arith, le, is, slice_get_within pairs k p e));
  within = omega arith;
}

pub Searched-above : (pairs : List (ℤ × ℤ)) (key : ℤ) (low high middle : ℕ) (p : ℤ × ℤ) → IsTrue (keys_rise pairs) → slice_get pairs middle ≡ Some p →
    p.0 <ℤ key → Searched pairs key low high → Searched pairs key (middle + 1) high
Searched-above pairs key low high middle p h e less s = record {
  below = λ k q f lt. elim (cases_eq k middle) [
    | inl same ↦ let is : p ≡ q = same_pair pairs k middle p q same e f in subst (λ (r : ℤ × ℤ). r.0 <ℤ key) is less
    | inr other ↦ let one = ordered pairs k middle q p h (omega (arith, lt, other)) f e in omega (arith, ints)
  ];
  above = s.above;
  within = s.within;
}
  where
    same_pair : (pairs : List (ℤ × ℤ)) (k middle : ℕ) (p q : ℤ × ℤ) → k ≡ middle → slice_get pairs middle ≡ Some p → slice_get pairs k ≡ Some q → p ≡ q
    same_pair pairs k middle p q same e f = let both : Some p ≡ Some q = sym e ∙ ap (slice_get pairs) (sym same) ∙ f in cc

pub Searched-below : (pairs : List (ℤ × ℤ)) (key : ℤ) (low high middle : ℕ) (p : ℤ × ℤ) → IsTrue (keys_rise pairs) → slice_get pairs middle ≡ Some p →
    key <ℤ p.0 → middle < high → Searched pairs key low high → Searched pairs key low middle
Searched-below pairs key low high middle p h e less lt s = record {
  below = s.below;
  above = λ k q f le. elim (cases_eq k middle) [
    | inl same ↦ let both : Some p ≡ Some q = sym e ∙ ap (slice_get pairs) (sym same) ∙ f in let is : p ≡ q = cc in subst (λ (r : ℤ × ℤ). key <ℤ r.0) is less
    | inr other ↦ let one = ordered pairs middle k p q h (omega (arith, le, other)) e f in omega (arith, ints)
  ];
  within = omega (arith, s.within, lt);
}

pub Searched-none : (pairs : List (ℤ × ℤ)) (key : ℤ) (low high : ℕ) → high ≤ low → Searched pairs key low high → distance_for key pairs ≡ None
Searched-none pairs key low high le s = ap (option_map pair_distance) (not_found key pairs (λ k p e. elim (cases_lt k low) [
  | inl lt ↦ differs p.0 key _ refl (s.below k p e lt)
  | inr past ↦ let more = s.above k p e (omega (arith, past, le)) in apart p.0 key _ refl more
]))
  where
    apart : (x y : ℤ) (b : Bool) → int_eq x y ≡ b → y <ℤ x → int_eq x y ≡ false
    apart x y true e lt = let same : x ≡ y = (Decides-int_eq x y).0 e in absurd (omega (arith, ints))
    apart x y false e lt = e

pub distance_found : (pairs : List (ℤ × ℤ)) (k : ℕ) (p : ℤ × ℤ) → IsTrue (keys_rise pairs) → slice_get pairs k ≡ Some p → distance_for p.0 pairs ≡ Some p.1
distance_found pairs k p h e = ap (option_map pair_distance) (found_at pairs k p h e)

no_less : (x y : ℤ) (b : Bool) → int_lt x y ≡ b → (x <ℤ y → ⊥) → y ≤ℤ x
no_less x y true e h = absurd (h (omega (arith, ints)))
no_less x y false e h = omega (arith, ints)

-- a key that is neither below nor above is the one that is looked for
pub found_between : (pairs : List (ℤ × ℤ)) (key z : ℤ) (k : ℕ) (p : ℤ × ℤ) → z ≡ key → IsTrue (keys_rise pairs) → slice_get pairs k ≡ Some p →
    (p.0 <ℤ z → ⊥) → (z <ℤ p.0 → ⊥) → option_map pair_distance (slice_get pairs k) ≡ distance_for key pairs
found_between pairs key z k p is h e not_below not_above =
    let one = no_less p.0 z _ refl not_below in
    let two = no_less z p.0 _ refl not_above in
    let same : p.0 ≡ key = omega (arith, ints) in
    ap (option_map pair_distance) e ∙ sym (subst (λ (x : ℤ). distance_for x pairs ≡ Some p.1) same (distance_found pairs k p h e))
