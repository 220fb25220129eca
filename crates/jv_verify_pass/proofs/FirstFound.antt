-- The first of a list that passes a test, by places.
use Rattle.std.proofs.Common.{◌≡◌, ℕ, zero, suc, ◌+◌, ◌<◌, ◌≤◌, Bool, true, false, List, [], ◌∷◌, length, Some, None, cond, refl, sym, ap, subst, ◌∙◌, inl, inr, arith}
use Rattle.std.specs.Prelude.{slice_get}
use Rattle.std.specs.List.{find}
use Rattle.std.proofs.lemmas.Bool.{cases_lt}

unsome : {X : Type 0} (x y : X) → Some x ≡ Some y → x ≡ y
unsome x y e = cc

-- none of those below a place passes
abbrev pub NoneBelow : {X : Type 0} → (X → Bool) → List X → ℕ → Type 0
NoneBelow {X} p xs k = (j : ℕ) (y : X) → j < k → slice_get xs j ≡ Some y → p y ≡ false

pub none_at_first : {X : Type 0} (p : X → Bool) (xs : List X) → NoneBelow p xs 0
none_at_first p xs j y lt at = absurd (omega (arith, lt))

pub none_more : {X : Type 0} (p : X → Bool) (xs : List X) (k : ℕ) (x : X) → NoneBelow p xs k → slice_get xs k ≡ Some x → p x ≡ false → NoneBelow p xs (k + 1)
none_more p xs k x below here not j y lt at = elim (cases_lt j k) [
  | inl less ↦ below j y less at
  | inr le ↦
      let same : k ≡ j = omega (arith, le, lt) in
      let one : x ≡ y = unsome x y (sym here ∙ (ap (slice_get xs) same ∙ at)) in
      subst (λ z. p z ≡ false) one not
]

rest_found : {X : Type 0} (p : X → Bool) (x : X) (xs : List X) → p x ≡ false → find p (x ∷ xs) ≡ find p xs
rest_found p x xs e = ap (λ b. cond b (Some x) (find p xs)) e

pub found_there : {X : Type 0} (p : X → Bool) (xs : List X) (k : ℕ) (x : X) → NoneBelow p xs k → slice_get xs k ≡ Some x → p x ≡ true → find p xs ≡ Some x
found_there p [] k x below at e = absurd cc
found_there p (y ∷ xs) zero x below at e =
    let same : y ≡ x = unsome y x at in
    ap (λ b. cond b (Some y) (find p xs)) (ap p same ∙ e) ∙ ap (λ z. Some z) same
found_there p (y ∷ xs) (suc k) x below at e =
    rest_found p y xs (below zero y (omega arith) refl) ∙ found_there p xs k x (λ j z lt h. below (suc j) z (omega (arith, lt)) h) at e

pub none_found : {X : Type 0} (p : X → Bool) (xs : List X) (n : ℕ) → NoneBelow p xs n → length xs ≤ n → find p xs ≡ None
none_found p [] n below le = refl
none_found p (y ∷ xs) zero below le = absurd (omega (arith, le))
none_found p (y ∷ xs) (suc n) below le =
    rest_found p y xs (below zero y (omega arith) refl) ∙ none_found p xs n (λ j z lt h. below (suc j) z (omega (arith, lt)) h) (omega (arith, le))

-- within a list there is one
pub not_none : {X : Type 0} (xs : List X) (k : ℕ) → k < length xs → slice_get xs k ≡ None → ⊥
not_none [] k lt e = omega (arith, lt)
not_none (x ∷ xs) zero lt e = absurd cc
not_none (x ∷ xs) (suc k) lt e = not_none xs k (omega (arith, lt)) e
