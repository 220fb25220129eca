-- What holds of each item of a list, as the code has it and as the definitions have it.
use Rattle.std.proofs.Common.{◌≡◌, ◌≢◌, ◌+◌, ⊎_elim, ℕ, zero, suc, ◌<◌, ◌≤◌, Bool, true, false, cond, List, [], ◌∷◌, ◌++◌, length, get_or, Option, Some, None, inl, inr, refl, subst, ap, ◌∙◌, arith}
use Rattle.std.specs.Prelude.{◌↔◌, IsTrue, IsSome, Result, Ok, Err, IfOk, map, ◌⊎◌, slice_get}
use Rattle.std.specs.Option.{IsSomeAnd}
use Rattle.std.specs.List.{All}
use Rattle.std.proofs.lemmas.List.Elements.{All-map, All-head, All-tail, All-nil, All-cons}
use Rattle.std.proofs.lemmas.Bool.{cases_eq}
use Rattle.jv_pool.specs.Constants.{Entry, takes_two, table_of, usable, at_index}

pub untrue : (b : Bool) → b ≡ false → IsTrue b → ⊥
untrue b off on = cc

pub not_all_seen : {X Y : Type 0} (P : Y → Type 0) (view : X → Y) (xs : List X) (i : ℕ) (d : X) → i < length xs → (P (view (get_or xs i d)) → ⊥) → All P (map view xs) → ⊥
not_all_seen P view [] i d lt broken all = absurd (omega arith)
not_all_seen P view (x ∷ xs) zero d lt broken all = broken (All-head P (view x) (map view xs) all)
not_all_seen P view (x ∷ xs) (suc i) d lt broken all = not_all_seen P view xs i d (omega arith) broken (All-tail P (view x) (map view xs) all)

-- ---- constants, by the entries of their table

head_at : (b : Bool) (c : Entry) (rest : List (Option Entry)) → usable (slice_get (cond b (Some c ∷ None ∷ []) (Some c ∷ []) ++ rest) 0) ≡ Some c
head_at true c rest = refl
head_at false c rest = refl

tail_at : (b : Bool) (c : Entry) (rest : List (Option Entry)) (n : ℕ) → slice_get (cond b (Some c ∷ None ∷ []) (Some c ∷ []) ++ rest) (cond b (suc (suc n)) (suc n)) ≡ slice_get rest n
tail_at true c rest n = refl
tail_at false c rest n = refl

found_in : (b : Bool) (c : Entry) (rest : List (Option Entry)) (n : ℕ) (d : Entry) →
    usable (slice_get (cond b (Some c ∷ None ∷ []) (Some c ∷ []) ++ rest) n) ≡ Some d → (c ≡ d) ⊎ ((m : ℕ) × (usable (slice_get rest m) ≡ Some d))
found_in true c rest zero d e = inl (cc)
found_in true c rest (suc zero) d e = absurd cc
found_in true c rest (suc (suc m)) d e = inr (m, e)
found_in false c rest zero d e = inl (cc)
found_in false c rest (suc m) d e = inr (m, e)

from_entries : (P : Entry → Type 0) (pool : List Entry) → ((n : ℕ) (c : Entry) → usable (slice_get (table_of pool) n) ≡ Some c → P c) → All P pool
from_entries P [] h = All-nil P
from_entries P (c ∷ pool) h =
    All-cons P c pool (h 0 c (head_at (takes_two c) c (table_of pool)))
    (from_entries P pool (λ n d e. h (cond (takes_two c) (suc (suc n)) (suc n)) d (ap usable (tail_at (takes_two c) c (table_of pool) n) ∙ e)))

within : (table : List (Option Entry)) (n : ℕ) (c : Entry) → usable (slice_get table n) ≡ Some c → n < length table
within [] n c e = absurd cc
within (x ∷ table) zero c e = omega arith
within (x ∷ table) (suc n) c e = let lt = within table n c e in omega arith

pub all_from_table : (P : Entry → Type 0) (pool : List Entry) → ((n : ℕ) (c : Entry) → n < length (table_of pool) → usable (slice_get (table_of pool) n) ≡ Some c → P c) → All P pool
all_from_table P pool h = from_entries P pool (λ n c e. h n c (within (table_of pool) n c e) e)

-- what holds below a number, and of it, holds below the next
pub next_one : (P : ℕ → Type 0) (k : ℕ) → ((n : ℕ) → 1 ≤ n → n < k → P n) → P k → (n : ℕ) → 1 ≤ n → n < k + 1 → P n
next_one P k below here n one lt = ⊎_elim (λ (e : k ≡ n). subst P e here) (λ (ne : k ≢ n). below n one (omega arith)) (cases_eq k n)

entry_or_more : (P : Entry → Type 0) (d c : Entry) (rest : List (Option Entry)) → P d → ((m : ℕ) → usable (slice_get rest m) ≡ Some c → P c) →
    (d ≡ c) ⊎ ((m : ℕ) × (usable (slice_get rest m) ≡ Some c)) → P c
entry_or_more P d c rest here later (inl same) = subst P same here
entry_or_more P d c rest here later (inr more) = later more.0 more.1

pub at_table : (P : Entry → Type 0) (pool : List Entry) → All P pool → (n : ℕ) (c : Entry) → usable (slice_get (table_of pool) n) ≡ Some c → P c
at_table P [] all n c e = absurd cc
at_table P (d ∷ pool) all n c e =
    entry_or_more P d c (table_of pool) (All-head P d pool all) (λ m f. at_table P pool (All-tail P d pool all) m c f) (found_in (takes_two d) d (table_of pool) n c e)

pub at_indices : (P : Entry → Type 0) (pool : List Entry) → All P pool → (index : ℕ) (c : Entry) → at_index pool index ≡ Some c → P c
at_indices P pool all zero c e = absurd cc
at_indices P pool all (suc n) c e = at_table P pool all n c e

-- ---- items as the code has them

pub all_unseen : {X Y : Type 0} (P : Y → Type 0) (view : X → Y) (xs : List X) → All P (map view xs) → All (λ x. P (view x)) xs
all_unseen P view [] all = All-nil (λ x. P (view x))
all_unseen P view (x ∷ xs) all =
    All-cons (λ x. P (view x)) x xs (All-head P (view x) (map view xs) all) (all_unseen P view xs (All-tail P (view x) (map view xs) all))

pub some_there : {X : Type 0} (o : Option X) (P : X → Type 0) → IsSomeAnd o P → IsSome o
some_there None P h = absurd h
some_there (Some x) P h = refl

pub all_there : {X Y : Type 0} (look : Y → Option X) (P : Y → X → Type 0) (ys : List Y) → All (λ y. IsSomeAnd (look y) (P y)) ys → All (λ y. IsSome (look y)) ys
all_there look P [] all = All-nil (λ y. IsSome (look y))
all_there look P (y ∷ ys) all =
    All-cons (λ y. IsSome (look y)) y ys (some_there (look y) (P y) (All-head (λ y. IsSomeAnd (look y) (P y)) y ys all))
    (all_there look P ys (All-tail (λ y. IsSomeAnd (look y) (P y)) y ys all))

-- a test that stands for a fact stands for what that fact is
pub if_ok_same : {A F : Type 0} (r : Result A F) (P Q : A → Type 0) → ((x : A) → P x → Q x) → IfOk r P → IfOk r Q
if_ok_same (Ok x) P Q f h = f x h
if_ok_same (Err e) P Q f h = tt

-- a fact of each item as it is seen is one of each value that is seen of them
pub all_mapped : {X Y : Type 0} (P : Y → Type 0) (f : X → Y) (xs : List X) → All (λ x. P (f x)) xs ↔ All P (map f xs)
all_mapped P f xs = (All-map P f xs, all_unseen P f xs)
