-- Tests of which all hold, and of each item of a list.
use Rattle.std.proofs.Common.{◌≡◌, ℕ, ◌+◌, Bool, true, false, ◌&&◌, ◌||◌, List, [], ◌∷◌, take, get_or, Some, refl, sym, ap, ◌∙◌}
use Rattle.std.specs.Prelude.{slice_get}
use Rattle.std.specs.List.{list_all}
use Rattle.std.proofs.lemmas.Option.{slice_get_within, get_or_from_slice_get}
use Rattle.std.proofs.lemmas.List.Folds.{list_all_more, list_all_at}

pub both : (a b : Bool) → (a && b) ≡ true → (a ≡ true) × (b ≡ true)
both true true e = (refl, refl)
both true false e = absurd cc
both false b e = absurd cc

pub joined : (a b : Bool) → a ≡ true → b ≡ true → (a && b) ≡ true
joined a b e f = rw (e, f) refl

pub and_true : (b : Bool) → (b && true) ≡ b
and_true true = refl
and_true false = refl

-- ---- each item of a list, one by one

pub more_hold : {A : Type 0} (p : A → Bool) (xs : List A) (k : ℕ) (x : A) → slice_get xs k ≡ Some x → list_all p (take k xs) ≡ true → p x ≡ true → list_all p (take (k + 1) xs) ≡ true
more_hold p xs k x e all one =
    list_all_more p xs k x (slice_get_within xs k x e)
    ∙ joined (list_all p (take k xs)) (p (get_or xs k x)) all (ap p (get_or_from_slice_get xs k x x e) ∙ one)

pub one_fails : {A : Type 0} (p : A → Bool) (xs : List A) (k : ℕ) (x : A) → slice_get xs k ≡ Some x → p x ≡ false → list_all p xs ≡ false
one_fails p xs k x e one = list_all_at p xs k x (slice_get_within xs k x e) (ap p (get_or_from_slice_get xs k x x e) ∙ one)

pub or_grouped : (a b c : Bool) → (a || b || c) ≡ (a || (b || c))
or_grouped true b c = refl
or_grouped false b c = refl

-- each of which one of three tests is true
pub all_grouped : {A : Type 0} (p q r : A → Bool) (xs : List A) → list_all (λ x. p x || (q x || r x)) xs ≡ list_all (λ x. p x || q x || r x) xs
all_grouped p q r [] = refl
all_grouped p q r (x ∷ xs) =
    ap (λ b. b && list_all (λ y. p y || (q y || r y)) xs) (sym (or_grouped (p x) (q x) (r x))) ∙ ap (λ b. (p x || q x || r x) && b) (all_grouped p q r xs)
