-- Items at places of lists.
use Rattle.std.proofs.Common.{◌≡◌, ◌≢◌, ℕ, zero, suc, ◌+◌, ◌<◌, ◌≤◌, List, [], ◌∷◌, ◌++◌, Some, None, length, get_or, slice_get, map, set, refl, sym, ap, ◌∙◌, ◌⊎◌, inl, inr, Result, Ok, Err, arith}
use Rattle.std.specs.Prelude.{OnOk, OnErr, IfErr, IsOk, IsErr}
use Rattle.jv_host.specs.Host.{changed_at}
use Rattle.jv_host.specs.Inside.Holding.{sum_over}

pub same_or_other : (k id : ℕ) → (k ≡ id) ⊎ (k ≢ id)
same_or_other zero zero = inl refl
same_or_other zero (suc id) = inr (λ e. omega (arith, e))
same_or_other (suc k) zero = inr (λ e. omega (arith, e))
same_or_other (suc k) (suc id) =
    elim (same_or_other k id) [
      | inl same ↦ inl (ap suc same)
      | inr other ↦ inr (λ e. other (omega (arith, e)))
    ]

module _ {A : Type 0} where
  pub item_at : (xs : List A) (k : ℕ) (x : A) → k < length xs → x ≡ get_or xs k x → slice_get xs k ≡ Some x
  item_at [] k x less e = absurd (omega (arith, less))
  item_at (y ∷ ys) zero x less e = ap Some (sym e)
  item_at (y ∷ ys) (suc k) x less e = item_at ys k x (omega (arith, less)) e

  pub place_within : (xs : List A) (k : ℕ) (x : A) → slice_get xs k ≡ Some x → k < length xs
  place_within [] k x e = absurd cc
  place_within (y ∷ ys) zero x e = omega arith
  place_within (y ∷ ys) (suc k) x e = let rest = place_within ys k x e in omega (arith, rest)

  pub none_behind : (xs : List A) (k : ℕ) → length xs ≤ k → slice_get xs k ≡ None
  none_behind [] k less = refl
  none_behind (y ∷ ys) zero less = absurd (omega (arith, less))
  none_behind (y ∷ ys) (suc k) less = none_behind ys k (omega (arith, less))

  -- ---- a list with one item changed

  pub at_set : (xs : List A) (k : ℕ) (x y : A) → slice_get (set xs k x) k ≡ Some y → x ≡ y
  at_set [] k x y e = absurd cc
  at_set (z ∷ zs) zero x y e = cc
  at_set (z ∷ zs) (suc k) x y e = at_set zs k x y e

  pub beside_set : (xs : List A) (k j : ℕ) (x : A) → j ≢ k → slice_get (set xs k x) j ≡ slice_get xs j
  beside_set [] k j x other = refl
  beside_set (z ∷ zs) zero zero x other = absurd (other refl)
  beside_set (z ∷ zs) zero (suc j) x other = refl
  beside_set (z ∷ zs) (suc k) zero x other = refl
  beside_set (z ∷ zs) (suc k) (suc j) x other = beside_set zs k j x (λ e. other (ap suc e))

  pub count_of_set : (xs : List A) (k : ℕ) (x : A) → length (set xs k x) ≡ length xs
  count_of_set [] k x = refl
  count_of_set (z ∷ zs) zero x = refl
  count_of_set (z ∷ zs) (suc k) x = ap suc (count_of_set zs k x)

  pub count_of_changed : (change : A → A) (xs : List A) (k : ℕ) → length (changed_at change xs k) ≡ length xs
  count_of_changed change [] k = refl
  count_of_changed change (z ∷ zs) zero = refl
  count_of_changed change (z ∷ zs) (suc k) = ap suc (count_of_changed change zs k)

  pub at_changed : (change : A → A) (xs : List A) (k : ℕ) (x : A) → slice_get xs k ≡ Some x → slice_get (changed_at change xs k) k ≡ Some (change x)
  at_changed change [] k x e = absurd cc
  at_changed change (z ∷ zs) zero x e = ap (λ (y : A). Some (change y)) (let same : z ≡ x = cc in same)
  at_changed change (z ∷ zs) (suc k) x e = at_changed change zs k x e

  pub beside_changed : (change : A → A) (xs : List A) (k j : ℕ) → j ≢ k → slice_get (changed_at change xs k) j ≡ slice_get xs j
  beside_changed change [] k j other = refl
  beside_changed change (z ∷ zs) zero zero other = absurd (other refl)
  beside_changed change (z ∷ zs) zero (suc j) other = refl
  beside_changed change (z ∷ zs) (suc k) zero other = refl
  beside_changed change (z ∷ zs) (suc k) (suc j) other = beside_changed change zs k j (λ e. other (ap suc e))

  -- ---- a list with one item more

  pub at_more : (xs : List A) (x y : A) (k : ℕ) → slice_get (xs ++ x ∷ []) k ≡ Some y → (slice_get xs k ≡ Some y) ⊎ ((k ≡ length xs) × (x ≡ y))
  at_more [] x y zero e = inr (refl, cc)
  at_more [] x y (suc k) e = absurd cc
  at_more (z ∷ zs) x y zero e = inl e
  at_more (z ∷ zs) x y (suc k) e =
      elim (at_more zs x y k e) [
        | inl old ↦ inl old
        | inr new ↦ inr (ap suc new.0, new.1)
      ]

module _ {A B : Type 0} (f : A → B) where
  pub item_of_map : (xs : List A) (k : ℕ) (x : A) → slice_get xs k ≡ Some x → slice_get (map f xs) k ≡ Some (f x)
  item_of_map [] k x e = absurd cc
  item_of_map (y ∷ ys) zero x e = cc
  item_of_map (y ∷ ys) (suc k) x e = item_of_map ys k x e

  pub item_of_image : (xs : List A) (k : ℕ) (y : B) → slice_get (map f xs) k ≡ Some y → (x : A) × (slice_get xs k ≡ Some x) × (f x ≡ y)
  item_of_image [] k y e = absurd cc
  item_of_image (x ∷ xs) zero y e = (x, refl, cc)
  item_of_image (x ∷ xs) (suc k) y e = item_of_image xs k y e

  pub none_of_map : (xs : List A) (k : ℕ) → length xs ≤ k → slice_get (map f xs) k ≡ None
  none_of_map [] k less = refl
  none_of_map (y ∷ ys) zero less = absurd (omega (arith, less))
  none_of_map (y ∷ ys) (suc k) less = none_of_map ys k (omega (arith, less))

  pub count_of_map : (xs : List A) → length (map f xs) ≡ length xs
  count_of_map [] = refl
  count_of_map (x ∷ xs) = ap suc (count_of_map xs)

  pub map_of_changed :
      (change : B → B) (xs : List A) (k : ℕ) (x y : A) → slice_get xs k ≡ Some x → f y ≡ change (f x)
      → map f (set xs k y) ≡ changed_at change (map f xs) k
  map_of_changed change [] k x y e is = refl
  map_of_changed change (z ∷ zs) zero x y e is =
      ap (λ (b : B). b ∷ map f zs) (is ∙ ap (λ (a : A). change (f a)) (let same : x ≡ z = cc in same))
  map_of_changed change (z ∷ zs) (suc k) x y e is = ap (λ (l : List B). f z ∷ l) (map_of_changed change zs k x y e is)

  pub map_of_same : (xs : List A) (k : ℕ) (x y : A) → slice_get xs k ≡ Some x → f y ≡ f x → map f (set xs k y) ≡ map f xs
  map_of_same [] k x y e is = refl
  map_of_same (z ∷ zs) zero x y e is = ap (λ (b : B). b ∷ map f zs) (is ∙ ap f (let same : x ≡ z = cc in same))
  map_of_same (z ∷ zs) (suc k) x y e is = ap (λ (l : List B). f z ∷ l) (map_of_same zs k x y e is)

  pub map_of_more : (xs : List A) (y : A) → map f (xs ++ y ∷ []) ≡ map f xs ++ f y ∷ []
  map_of_more [] y = refl
  map_of_more (x ∷ xs) y = ap (λ (l : List B). f x ∷ l) (map_of_more xs y)

-- ---- sums over lists

module _ {A : Type 0} (f : A → ℕ) where
  pub one_of_sum : (xs : List A) (k : ℕ) (x : A) → slice_get xs k ≡ Some x → f x ≤ sum_over f xs
  one_of_sum [] k x e = absurd cc
  one_of_sum (y ∷ ys) zero x e = let same : f y ≡ f x = ap f (let s : y ≡ x = cc in s) in omega (arith, same)
  one_of_sum (y ∷ ys) (suc k) x e = let rest = one_of_sum ys k x e in omega (arith, rest)

  pub sum_of_set : (xs : List A) (k : ℕ) (x y : A) → slice_get xs k ≡ Some x → sum_over f (set xs k y) + f x ≡ sum_over f xs + f y
  sum_of_set [] k x y e = absurd cc
  sum_of_set (z ∷ zs) zero x y e = let same : f z ≡ f x = ap f (let s : z ≡ x = cc in s) in omega (arith, same)
  sum_of_set (z ∷ zs) (suc k) x y e = let rest = sum_of_set zs k x y e in omega (arith, rest)

  pub sum_of_more : (xs : List A) (y : A) → sum_over f (xs ++ y ∷ []) ≡ sum_over f xs + f y
  sum_of_more [] y = omega arith
  sum_of_more (x ∷ xs) y = let rest = sum_of_more xs y in omega (arith, rest)

-- ---- results

module _ {A E : Type 0} where
  pub on_ok : (r : Result A E) (P Q : Type 0) → (P → Q) → OnOk r P → OnOk r Q
  on_ok (Ok a) P Q f h = f h
  on_ok (Err e) P Q f h = h

  pub on_err : (r : Result A E) (P Q : Type 0) → (P → Q) → OnErr r P → OnErr r Q
  on_err (Ok a) P Q f h = h
  on_err (Err e) P Q f h = f h

  pub if_err : (r : Result A E) (P Q : E → Type 0) → ((e : E) → P e → Q e) → IfErr r P → IfErr r Q
  if_err (Ok a) P Q f h = h
  if_err (Err e) P Q f h = f e h

  pub ok_and_err : (r : Result A E) → IsOk r → IsErr r → ⊥
  ok_and_err (Ok a) ok err = absurd cc
  ok_and_err (Err e) ok err = absurd cc

  pub on_any_err : (r : Result A E) (P : Type 0) → P → OnErr r P
  on_any_err (Ok a) P h = tt
  on_any_err (Err e) P h = h
