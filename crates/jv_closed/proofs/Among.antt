-- A class that is among the first of a world, by its number.
use Rattle.std.proofs.Common.{◌≡◌, ℕ, zero, suc, ◌<◌, Bool, true, false, cond, List, [], ◌∷◌, length, take, get_or, Some, None, refl, sym, ap, ◌∙◌, arith}
use Rattle.std.specs.Prelude.{is_some, nat_lt}
use Rattle.std.specs.List.{find, position}
use Rattle.std.proofs.lemmas.Bool.{ltb-true, lt-ltb}
use Rattle.std.proofs.lemmas.List.Quantifiers.{position-Some}
use Rattle.std.specs.Str.{bytes_eq}
use Rattle.jv_meaning_world.specs.World.{World}
use Rattle.jv_meaning_world.specs.Numbers.{number_named}
use Rattle.jv_meaning_library.specs.Closed.{is_there}
use Rattle.jv_closed.proofs.There.{number_is_there}

same_bool : (a b : Bool) → (a ≡ true → b ≡ true) → (b ≡ true → a ≡ true) → a ≡ b
same_bool true b there back = sym (there refl)
same_bool false true there back = back refl
same_bool false false there back = refl

none_below_zero : (k : ℕ) → nat_lt k 0 ≡ false
none_below_zero k = same_bool (nat_lt k 0) false (λ h. let lt : k < 0 = ltb-true k 0 h in absurd (omega (arith, lt))) (λ h. absurd cc)

one_less : (k n : ℕ) → nat_lt (suc k) (suc n) ≡ nat_lt k n
one_less k n =
    same_bool (nat_lt (suc k) (suc n)) (nat_lt k n)
    (λ h. let lt : suc k < suc n = ltb-true (suc k) (suc n) h in let less : k < n = omega (arith, lt) in lt-ltb k n less)
    (λ h. let lt : k < n = ltb-true k n h in let more : suc k < suc n = omega (arith, lt) in lt-ltb (suc k) (suc n) more)

module _ {X : Type 0} (p : X → Bool) where
  found_before : (xs : List X) (n k : ℕ) (d : X) → k < length xs → p (get_or xs k d) ≡ true → ((j : ℕ) → j < k → p (get_or xs j d) ≡ false)
      → is_some (find p (take n xs)) ≡ nat_lt k n
  found_before [] n k d less at before = absurd (omega (arith, less))
  found_before (x ∷ xs) zero k d less at before = sym (none_below_zero k)
  found_before (x ∷ xs) (suc n) zero d less at before =
      let first : 0 < suc n = omega arith in
      ap (λ b. is_some (cond b (Some x) (find p (take n xs)))) at ∙ sym (lt-ltb 0 (suc n) first)
  found_before (x ∷ xs) (suc n) (suc k) d less at before =
      let within : k < length xs = omega (arith, less) in
      let zeroth : 0 < suc k = omega arith in
      ap (λ b. is_some (cond b (Some x) (find p (take n xs)))) (before 0 zeroth)
      ∙ found_before xs n k d within at (λ j lt. let more : suc j < suc k = omega (arith, lt) in before (suc j) more) ∙ sym (one_less k n)

  first_at : (xs : List X) (n k : ℕ) → position p xs ≡ Some k → is_some (find p (take n xs)) ≡ nat_lt k n
  first_at [] n k e = absurd cc
  first_at (x ∷ xs) n k e =
      let found = position-Some p (x ∷ xs) k x e in
      found_before (x ∷ xs) n k x found.0 found.1 found.2

  none_before : (xs : List X) (n : ℕ) → is_some (find p xs) ≡ false → is_some (find p (take n xs)) ≡ false
  none_before [] zero e = refl
  none_before [] (suc n) e = refl
  none_before (x ∷ xs) zero e = refl
  none_before (x ∷ xs) (suc n) e = by_test (p x) e (none_before xs n)
    where
      by_test : (b : Bool) → is_some (cond b (Some x) (find p xs)) ≡ false → (is_some (find p xs) ≡ false → is_some (find p (take n xs)) ≡ false)
          → is_some (cond b (Some x) (find p (take n xs))) ≡ false
      by_test true e again = absurd cc
      by_test false e again = again e

pub is_first : (world : World) (count number : ℕ) (name : List ℕ) → number_named world name ≡ Some number → nat_lt number count ≡ is_there (take count world) name
is_first world count number name e = sym (first_at (λ l. bytes_eq l.class.name name) world count number e)

pub is_none : (world : World) (count : ℕ) (name : List ℕ) → number_named world name ≡ None → false ≡ is_there (take count world) name
is_none world count name e =
    sym (none_before (λ l. bytes_eq l.class.name name) world count (sym (number_is_there world name) ∙ ap is_some e))
