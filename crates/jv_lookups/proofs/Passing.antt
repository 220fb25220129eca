-- Tests of the items of a list, and what a search finds.
use Rattle.std.proofs.Common.{◌≡◌, ℕ, zero, suc, ◌<◌, Bool, true, false, cond, ◌||◌, ◌&&◌, List, [], ◌∷◌, length, Some, refl, sym, ap, ◌∙◌, arith}
use Rattle.std.specs.Prelude.{slice_get}
use Rattle.std.specs.List.{find, list_any}

-- ---- tests

pub or_none : (a : Bool) → (a || false) ≡ a
or_none true = refl
or_none false = refl

pub and_none : (a : Bool) → (a && false) ≡ false
and_none true = refl
and_none false = refl

pub and_all : (a : Bool) → (a && true) ≡ a
and_all true = refl
and_all false = refl

pub crossed : (a b c d : Bool) → ((a || b) || (c || d)) ≡ ((a || c) || (b || d))
crossed true b c d = refl
crossed false true true d = refl
crossed false true false d = refl
crossed false false true d = refl
crossed false false false d = refl

pub shared : (b p q : Bool) → ((b && p) || (b && q)) ≡ (b && (p || q))
shared true p q = refl
shared false p q = refl

-- two tests that say the same both ways
pub both_ways : (a b : Bool) → (a ≡ true → b ≡ true) → (b ≡ true → a ≡ true) → a ≡ b
both_ways true b there back = sym (there refl)
both_ways false true there back = back refl
both_ways false false there back = refl

-- ---- lists

module _ {X : Type 0} where
  pub some_at : (xs : List X) (place : ℕ) → place < length xs → (x : X) × (slice_get xs place ≡ Some x)
  some_at [] place h = absurd (omega (arith, h))
  some_at (x ∷ xs) zero h = (x, refl)
  some_at (x ∷ xs) (suc place) h = some_at xs place (omega (arith, h))

  pub any_same : (p q : X → Bool) → ((x : X) → p x ≡ q x) → (xs : List X) → list_any p xs ≡ list_any q xs
  any_same p q h [] = refl
  any_same p q h (x ∷ xs) = ap (λ b. b || list_any p xs) (h x) ∙ ap (λ b. q x || b) (any_same p q h xs)

  pub any_either : (p q : X → Bool) (xs : List X) → list_any (λ x. p x || q x) xs ≡ (list_any p xs || list_any q xs)
  any_either p q [] = refl
  any_either p q (x ∷ xs) = ap (λ b. (p x || q x) || b) (any_either p q xs) ∙ crossed (p x) (q x) (list_any p xs) (list_any q xs)

  pub any_if : (b : Bool) (p : X → Bool) (xs : List X) → list_any (λ x. b && p x) xs ≡ (b && list_any p xs)
  any_if b p [] = sym (and_none b)
  any_if b p (x ∷ xs) = ap (λ c. (b && p x) || c) (any_if b p xs) ∙ shared b (p x) (list_any p xs)

  pub item_passes : (p : X → Bool) (xs : List X) (place : ℕ) (x : X) → slice_get xs place ≡ Some x → p x ≡ true → list_any p xs ≡ true
  item_passes p [] place x e h = absurd cc
  item_passes p (y ∷ xs) zero x e h = let same : y ≡ x = cc in ap (λ z. p z || list_any p xs) same ∙ ap (λ b. b || list_any p xs) h
  item_passes p (y ∷ xs) (suc place) x e h = by_first (p y) (item_passes p xs place x e h)
    where
      by_first : (b : Bool) → list_any p xs ≡ true → (b || list_any p xs) ≡ true
      by_first true again = refl
      by_first false again = again

  pub passing_item : (p : X → Bool) (xs : List X) → list_any p xs ≡ true → (place : ℕ) × (x : X) × (slice_get xs place ≡ Some x) × (p x ≡ true)
  passing_item p [] h = absurd cc
  passing_item p (y ∷ xs) h = by_first (p y) refl h (λ k. passing_item p xs k)
    where
      by_first : (b : Bool) → p y ≡ b → (b || list_any p xs) ≡ true → (list_any p xs ≡ true → (place : ℕ) × (x : X) × (slice_get xs place ≡ Some x) × (p x ≡ true))
          → (place : ℕ) × (x : X) × (slice_get (y ∷ xs) place ≡ Some x) × (p x ≡ true)
      by_first true e h again = (0, y, refl, e)
      by_first false e h again = let found = again h in (suc found.0, found.1, found.2, found.3)

  pub found_item : (p : X → Bool) (xs : List X) (x : X) → find p xs ≡ Some x → (place : ℕ) × (slice_get xs place ≡ Some x) × (p x ≡ true)
  found_item p [] x h = absurd cc
  found_item p (y ∷ xs) x h = by_first (p y) refl h (λ k. found_item p xs x k)
    where
      by_first : (b : Bool) → p y ≡ b → cond b (Some y) (find p xs) ≡ Some x → (find p xs ≡ Some x → (place : ℕ) × (slice_get xs place ≡ Some x) × (p x ≡ true))
          → (place : ℕ) × (slice_get (y ∷ xs) place ≡ Some x) × (p x ≡ true)
      by_first true e h again = let same : y ≡ x = cc in (0, h, ap p (sym same) ∙ e)
      by_first false e h again = let found = again h in (suc found.0, found.1, found.2)
