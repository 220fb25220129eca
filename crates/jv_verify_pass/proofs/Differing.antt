-- The first place at which a frame doesn't flow into another one.
use Rattle.std.proofs.Common.{◌≡◌, ℕ, zero, suc, ◌+◌, ◌<◌, ◌≤◌, Bool, true, false, List, [], ◌∷◌, length, map, max, Option, Some, None, refl, sym, ap, subst, ◌∙◌, ◌⊎◌, inl, inr, arith, if◌then◌else◌}
use Rattle.std.specs.Prelude.{slice_get}
use Rattle.std.specs.Option.{option_map}
use Rattle.std.proofs.lemmas.Bool.{cases_lt}
use Rattle.std.proofs.lemmas.Option.{slice_get-map}
use Rattle.jv_stackmap.specs.Types.{FrameType}
use Rattle.jv_verify_types.specs.Numbered.{Item}
use Rattle.jv_verify_pass.specs.Inside.Unlike.{both_flow}
use Rattle.jv_verify_pass.specs.Onward.{first_unlike}

clash : false ≡ true → ⊥
clash e = cc

-- ---- what holds below a number

pub below_more : (P : ℕ → Type 0) (k : ℕ) → ((j : ℕ) → j < k → P j) → P k → (j : ℕ) → j < k + 1 → P j
below_more P k below here j lt = elim (cases_lt j k) [
  | inl less ↦ below j less
  | inr le ↦ let same : k ≡ j = omega (arith, le, lt) in subst P same here
]

pub below_max : (k a b high : ℕ) → high ≡ max a b → k < high → (k < a) ⊎ (k < b)
below_max k a b high e lt = elim (cases_lt k a) [ inl less ↦ inl less | inr le ↦ inr (omega (arith, e, lt, le)) ]

-- ---- two lists of types

module _ (flow : FrameType → FrameType → Bool) where
  abbrev Flow : List FrameType → List FrameType → ℕ → Bool
  Flow ss ts k = both_flow flow (slice_get ss k) (slice_get ts k)

  abbrev more : Option ℕ → Bool → Option ℕ
  more rest b = if b then option_map (λ k. suc k) rest else Some 0

  pub unlike_there : (ss ts : List FrameType) (k : ℕ) → ((j : ℕ) → j < k → both_flow flow (slice_get ss j) (slice_get ts j) ≡ true)
      → both_flow flow (slice_get ss k) (slice_get ts k) ≡ false → (k < length ss) ⊎ (k < length ts) → first_unlike flow ss ts ≡ Some k
  unlike_there [] [] k below here (inl lt) = absurd (omega (arith, lt))
  unlike_there [] [] k below here (inr lt) = absurd (omega (arith, lt))
  unlike_there [] (t ∷ ts) zero below here within = refl
  unlike_there [] (t ∷ ts) (suc k) below here within = absurd (clash (below zero (omega arith)))
  unlike_there (s ∷ ss) [] zero below here within = refl
  unlike_there (s ∷ ss) [] (suc k) below here within = absurd (clash (below zero (omega arith)))
  unlike_there (s ∷ ss) (t ∷ ts) zero below here within = ap (more (first_unlike flow ss ts)) here
  unlike_there (s ∷ ss) (t ∷ ts) (suc k) below here within =
      let less : (k < length ss) ⊎ (k < length ts) = elim within [ inl lt ↦ inl (omega (arith, lt)) | inr lt ↦ inr (omega (arith, lt)) ] in
      ap (more (first_unlike flow ss ts)) (below zero (omega arith))
      ∙ ap (option_map (λ k. suc k)) (unlike_there ss ts k (λ j lt. below (suc j) (omega (arith, lt))) here less)

  pub all_alike : (ss ts : List FrameType) (n : ℕ) → ((j : ℕ) → j < n → both_flow flow (slice_get ss j) (slice_get ts j) ≡ true)
      → length ss ≤ n → length ts ≤ n → first_unlike flow ss ts ≡ None
  all_alike [] [] n below one other = refl
  all_alike [] (t ∷ ts) n below one other = absurd (clash (below zero (omega (arith, other))))
  all_alike (s ∷ ss) [] n below one other = absurd (clash (below zero (omega (arith, one))))
  all_alike (s ∷ ss) (t ∷ ts) zero below one other = absurd (omega (arith, one))
  all_alike (s ∷ ss) (t ∷ ts) (suc n) below one other =
      ap (more (first_unlike flow ss ts)) (below zero (omega arith))
      ∙ ap (option_map (λ k. suc k)) (all_alike ss ts n (λ j lt. below (suc j) (omega (arith, lt))) (omega (arith, one)) (omega (arith, other)))

  -- by numbers
  pub flow_at : (f : Item → FrameType) (xs ys : List Item) (k : ℕ) (x y : Option Item) (b : Bool) → b ≡ both_flow flow (option_map f x) (option_map f y)
      → x ≡ slice_get xs k → y ≡ slice_get ys k → both_flow flow (slice_get (map f xs) k) (slice_get (map f ys) k) ≡ b
  flow_at f xs ys k x y b e p q =
      ap (λ o. both_flow flow o (slice_get (map f ys) k)) (slice_get-map f xs k ∙ ap (option_map f) (sym p))
      ∙ (ap (λ o. both_flow flow (option_map f x) o) (slice_get-map f ys k ∙ ap (option_map f) (sym q)) ∙ sym e)
