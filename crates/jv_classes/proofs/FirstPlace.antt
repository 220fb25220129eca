-- The first item of a list that passes a test, where one more joins behind.
use Rattle.std.proofs.Common.{◌≡◌, ℕ, Bool, true, false, cond, List, [], ◌∷◌, ◌++◌, ◌||◌, ◌+◌, length, Some, refl, sym, ap, ◌∙◌, arith}
use Rattle.std.specs.Prelude.{position, is_some}
use Rattle.std.specs.List.{list_any, position_from}
use Rattle.std.proofs.lemmas.Iterator.Adapters.{position_from-zero}

neither : (a b : Bool) → (a || b) ≡ false → (a ≡ false) × (b ≡ false)
neither true b e = absurd cc
neither false b e = (refl, e)

module _ {A : Type 0} (test : A → Bool) where
  some_from : (i : ℕ) (xs : List A) → is_some (position_from test i xs) ≡ list_any test xs
  some_from i [] = refl
  some_from i (x ∷ xs) = by_test (test x) (some_from (i + 1) xs)
    where
      by_test : (b : Bool) → is_some (position_from test (i + 1) xs) ≡ list_any test xs → is_some (cond b (Some i) (position_from test (i + 1) xs)) ≡ (b || list_any test xs)
      by_test true rest = refl
      by_test false rest = rest

  last_from : (i : ℕ) (xs : List A) (y : A) → list_any test xs ≡ false → test y ≡ true → position_from test i (xs ++ y ∷ []) ≡ Some (i + length xs)
  last_from i [] y absent e = rw e (ap Some (omega arith))
  last_from i (x ∷ xs) y absent e =
      let others = neither (test x) (list_any test xs) absent in
      ap (λ b. cond b (Some i) (position_from test (i + 1) (xs ++ y ∷ []))) others.0
      ∙ (last_from (i + 1) xs y others.1 e ∙ ap Some (omega arith))

  same_from : (i : ℕ) (xs : List A) (y : A) → test y ≡ false → position_from test i (xs ++ y ∷ []) ≡ position_from test i xs
  same_from i [] y e = rw e refl
  same_from i (x ∷ xs) y e = ap (cond (test x) (Some i)) (same_from (i + 1) xs y e)

  first_from : (i : ℕ) (xs ys : List A) → list_any test xs ≡ true → position_from test i (xs ++ ys) ≡ position_from test i xs
  first_from i [] ys there = absurd cc
  first_from i (x ∷ xs) ys there = by_test (test x) refl (λ h. first_from (i + 1) xs ys h) there
    where
      by_test : (b : Bool) → test x ≡ b → (list_any test xs ≡ true → position_from test (i + 1) (xs ++ ys) ≡ position_from test (i + 1) xs)
          → (test x || list_any test xs) ≡ true → cond (test x) (Some i) (position_from test (i + 1) (xs ++ ys)) ≡ cond (test x) (Some i) (position_from test (i + 1) xs)
      by_test true e rest h = rw e refl
      by_test false e rest h = ap (cond (test x) (Some i)) (rest (ap (λ b. b || list_any test xs) (sym e) ∙ h))

  -- the first of some is the first of more
  pub first_stays : (xs ys : List A) → list_any test xs ≡ true → position test (xs ++ ys) ≡ position test xs
  first_stays xs ys there = position_from-zero test (xs ++ ys) ∙ (first_from 0 xs ys there ∙ sym (position_from-zero test xs))

  pub some_place : (xs : List A) → is_some (position test xs) ≡ list_any test xs
  some_place xs = ap is_some (position_from-zero test xs) ∙ some_from 0 xs

  pub last_place : (xs : List A) (y : A) → list_any test xs ≡ false → test y ≡ true → position test (xs ++ y ∷ []) ≡ Some (length xs)
  last_place xs y absent e = position_from-zero test (xs ++ y ∷ []) ∙ (last_from 0 xs y absent e ∙ ap Some (omega arith))

  pub same_place : (xs : List A) (y : A) → test y ≡ false → position test (xs ++ y ∷ []) ≡ position test xs
  same_place xs y e = position_from-zero test (xs ++ y ∷ []) ∙ (same_from 0 xs y e ∙ sym (position_from-zero test xs))
