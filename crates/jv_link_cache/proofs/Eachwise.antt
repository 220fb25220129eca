-- What holds of each item of a list: of one more, and of the one at a place.
use Rattle.std.proofs.Common.{◌≡◌, ℕ, zero, suc, ◌+◌, ◌<◌, ◌≤◌, List, [], ◌∷◌, ◌++◌, length, get_or, Some, refl, sym, ap, ◌∙◌, subst, arith, ◌⊎◌, inl, inr, length-append}
use Rattle.std.specs.Prelude.{slice_get}
use Rattle.std.proofs.lemmas.Option.{slice_get-get_or}
use Rattle.jv_link_cache.specs.Inside.Each.{Each}

same_some : {A : Type 0} → {x y : A} → Some x ≡ Some y → x ≡ y
same_some e = cc

-- what stands behind a list with one more
one_more : {X : Type 0} → (xs : List X) (x y : X) (k : ℕ) → slice_get (xs ++ x ∷ []) k ≡ Some y → (slice_get xs k ≡ Some y) ⊎ ((k ≡ length xs) × (x ≡ y))
one_more [] x y zero e = inr (refl, same_some e)
one_more [] x y (suc k) e = absurd cc
one_more (z ∷ xs) x y zero e = inl e
one_more (z ∷ xs) x y (suc k) e = by_cases (one_more xs x y k e)
  where
    by_cases : (slice_get xs k ≡ Some y) ⊎ ((k ≡ length xs) × (x ≡ y)) → (slice_get xs k ≡ Some y) ⊎ ((suc k ≡ suc (length xs)) × (x ≡ y))
    by_cases (inl h) = inl h
    by_cases (inr h) = inr (ap suc h.0, h.1)

module _ {X : Type 0} (P : ℕ → X → Type 0) where
  pub each_goes_on : (count : ℕ) (xs : List X) (x : X) → P count x → Each P count xs → Each P (count + 1) (xs ++ x ∷ [])
  each_goes_on count xs x is each = record {
    count_of = let many = each.count_of in omega (arith, length-append xs (x ∷ []), many);
    each = λ k y at. by_cases k y (one_more xs x y k at);
  }
    where
      by_cases : (k : ℕ) (y : X) → (slice_get xs k ≡ Some y) ⊎ ((k ≡ length xs) × (x ≡ y)) → P k y
      by_cases k y (inl at) = each.each k y at
      by_cases k y (inr e) = subst (λ n. P n y) (sym (e.0 ∙ each.count_of)) (subst (P count) e.1 is)

  pub each_found : (count : ℕ) (xs : List X) (k : ℕ) (d : X) → Each P count xs → k < length xs → P k (get_or xs k d)
  each_found count xs k d each h = each.each k (get_or xs k d) (slice_get-get_or xs k d h)

pub within_list : {X : Type 0} → (xs : List X) (k : ℕ) (x : X) → slice_get xs k ≡ Some x → k < length xs
within_list [] zero x e = absurd cc
within_list [] (suc k) x e = absurd cc
within_list (y ∷ xs) zero x e = omega arith
within_list (y ∷ xs) (suc k) x e = let less = within_list xs k x e in omega (arith, less)

-- none stands where a list of as many has ended
pub none_beyond_each : {X Y : Type 0} → (P : ℕ → X → Type 0) (xs : List X) (ys : List Y) (k : ℕ) (y : Y) → Each P (length ys) xs → length xs ≤ k → slice_get ys k ≡ Some y → ⊥
none_beyond_each P xs ys k y each h at =
    let less = within_list ys k y at in
    let many = each.count_of in
    absurd (omega (arith, less, many, h))

pub some_item : {X : Type 0} → (xs : List X) (k : ℕ) → k < length xs → (x : X) × (slice_get xs k ≡ Some x)
some_item [] k h = absurd (omega (arith, h))
some_item (x ∷ xs) zero h = (x, refl)
some_item (x ∷ xs) (suc k) h = let less : k < length xs = omega (arith, h) in some_item xs k less

none_there : {X : Type 0} (k : ℕ) (x : X) → slice_get [] k ≡ Some x → ⊥
none_there zero x e = absurd cc
none_there (suc k) x e = absurd cc

pub each_none : {X : Type 0} (P : ℕ → X → Type 0) → Each P 0 []
each_none P = record { count_of = refl; each = λ k x at. absurd (none_there k x at) }
