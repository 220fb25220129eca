-- Items at places of lists that grow at the end.
use Rattle.std.proofs.Common.{◌≡◌, ℕ, zero, suc, ◌+◌, ◌<◌, List, [], ◌∷◌, ◌++◌, length, get_or, take, Some, refl, sym, ap, subst, ◌⊎◌, inl, inr, arith}
use Rattle.std.specs.Prelude.{map, slice_get, Result, Ok, Err, IfErr, IsErrAnd}

pub some_same : {A : Type 0} (a b : A) → Some a ≡ Some b → a ≡ b
some_same a b e = cc

-- an error that is handed on
pub passed_on : {T E : Type 0} (result : Result T E) (x : E) (P : E → Type 0) → IsErrAnd result (λ e. e ≡ x) → P x → IfErr result P
passed_on (Ok t) x P h p = tt
passed_on (Err e) x P h p = subst P (sym h) p

pub item_at : {A : Type 0} (xs : List A) (k : ℕ) (x : A) → k < length xs → x ≡ get_or xs k x → slice_get xs k ≡ Some x
item_at [] k x lt e = absurd (omega (arith, lt))
item_at (y ∷ xs) zero x lt e = ap Some (sym e)
item_at (y ∷ xs) (suc k) x lt e = item_at xs k x (omega (arith, lt)) e

pub within : {A : Type 0} (xs : List A) (k : ℕ) (x : A) → slice_get xs k ≡ Some x → k < length xs
within [] k x e = absurd cc
within (y ∷ xs) zero x e = omega arith
within (y ∷ xs) (suc k) x e = let rest : k < length xs = within xs k x e in omega arith

pub found_in_map : {A B : Type 0} (f : A → B) (xs : List A) (k : ℕ) (x : A) → slice_get xs k ≡ Some x → slice_get (map f xs) k ≡ Some (f x)
found_in_map f [] k x e = absurd cc
found_in_map f (y ∷ xs) zero x e = ap (λ y. Some (f y)) (some_same y x e)
found_in_map f (y ∷ xs) (suc k) x e = found_in_map f xs k x e

taken : {A B : Type 0} (f : A → B) (xs : List A) (k : ℕ) (x : A) → slice_get xs k ≡ Some x → map f (take (suc k) xs) ≡ map f (take k xs) ++ f x ∷ []
taken f [] k x e = absurd cc
taken f (y ∷ xs) zero x e = ap (λ y. f y ∷ []) (some_same y x e)
taken f (y ∷ xs) (suc k) x e = ap (λ ys. f y ∷ ys) (taken f xs k x e)

-- one item more
pub map-take-more : {A B : Type 0} (f : A → B) (xs : List A) (k : ℕ) (x : A) → slice_get xs k ≡ Some x → map f (take (k + 1) xs) ≡ map f (take k xs) ++ f x ∷ []
map-take-more f xs k x e =
    let next : k + 1 ≡ suc k = omega arith in
    rw next (taken f xs k x e)

pub length-taken : {A B : Type 0} (f : A → B) (xs : List A) (k : ℕ) → k < length xs → length (map f (take k xs)) ≡ k
length-taken f [] k lt = absurd (omega (arith, lt))
length-taken f (y ∷ xs) zero lt = refl
length-taken f (y ∷ xs) (suc k) lt = ap suc (length-taken f xs k (omega (arith, lt)))

pub length-more : {A : Type 0} (xs : List A) (x : A) → length (xs ++ x ∷ []) ≡ length xs + 1
length-more [] x = refl
length-more (y ∷ xs) x = let rest = length-more xs x in omega (arith, rest)

later : {A : Type 0} (y : A) (xs : List A) (x : A) (k : ℕ) (z : A) → ((k < length xs) × (slice_get xs k ≡ Some z)) ⊎ ((k ≡ length xs) × (z ≡ x))
    → ((suc k < length (y ∷ xs)) × (slice_get (y ∷ xs) (suc k) ≡ Some z)) ⊎ ((suc k ≡ length (y ∷ xs)) × (z ≡ x))
later y xs x k z (inl h) = inl (let lt = h.0 in omega (arith, lt), h.1)
later y xs x k z (inr h) = inr (ap suc h.0, h.1)

-- an item of a list with one item more
pub pushed : {A : Type 0} (xs : List A) (x : A) (k : ℕ) (z : A) → slice_get (xs ++ x ∷ []) k ≡ Some z
    → ((k < length xs) × (slice_get xs k ≡ Some z)) ⊎ ((k ≡ length xs) × (z ≡ x))
pushed [] x zero z e = inr (refl, sym (some_same x z e))
pushed [] x (suc k) z e = absurd cc
pushed (y ∷ xs) x zero z e = inl (omega arith, e)
pushed (y ∷ xs) x (suc k) z e = later y xs x k z (pushed xs x k z e)

pub map-more : {A B : Type 0} (f : A → B) (xs : List A) (x : A) → map f (xs ++ x ∷ []) ≡ map f xs ++ f x ∷ []
map-more f [] x = refl
map-more f (y ∷ xs) x = ap (λ ys. f y ∷ ys) (map-more f xs x)

pub in_place : {A : Type 0} (xs : List A) (k : ℕ) (d : A) → k < length xs → slice_get xs k ≡ Some (get_or xs k d)
in_place [] k d lt = absurd (omega (arith, lt))
in_place (y ∷ xs) zero d lt = refl
in_place (y ∷ xs) (suc k) d lt = in_place xs k d (omega (arith, lt))
