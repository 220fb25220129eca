-- What holds of numbers, and of those where each stands once.
use Rattle.std.proofs.Common.{◌≡◌, ℕ, ◌+◌, ◌<◌, Bool, true, false, cond, ◌||◌, ◌&&◌, List, [], ◌∷◌, ◌++◌, length, map, take, get_or, Option, Some, None, refl, sym, ap, ◌∙◌}
use Rattle.std.specs.List.{All, fold, list_all, list_any}
use Rattle.std.proofs.lemmas.Bool.{eqb-true}
use Rattle.std.proofs.lemmas.List.{take_more, map-append}
use Rattle.std.proofs.lemmas.List.Sums.{fold-append}
use Rattle.std.proofs.lemmas.List.Folds.{list_all-append, list_any-append}
use Rattle.std.proofs.lemmas.List.Elements.{All-head, All-tail, All-nil, All-push}
use Rattle.jv_classes.specs.Once.{is_same, joined_once, each_once}

pub same_is : (a b : Option ℕ) → is_same a b ≡ true → a ≡ b
same_is None None e = refl
same_is None (Some b) e = absurd cc
same_is (Some a) None e = absurd cc
same_is (Some a) (Some b) e = ap (λ n. Some n) (eqb-true a b e)

or_with : (a b c : Bool) → (b || c) ≡ b → ((a || b) || c) ≡ (a || b)
or_with true b c e = refl
or_with false b c e = e

or_again : (a b : Bool) → ((a || b) || a) ≡ (a || b)
or_again true b = refl
or_again false true = refl
or_again false false = refl

or_last : (a b c : Bool) → ((a || b) || c) ≡ (a || (b || c))
or_last true b c = refl
or_last false b c = refl

or_none : (a : Bool) → (a || false) ≡ a
or_none true = refl
or_none false = refl

and_with : (a b c : Bool) → (b && c) ≡ b → ((a && b) && c) ≡ (a && b)
and_with true b c e = e
and_with false b c e = refl

and_again : (a b : Bool) → ((a && b) && a) ≡ (a && b)
and_again true true = refl
and_again true false = refl
and_again false b = refl

and_last : (a b c : Bool) → ((a && b) && c) ≡ (a && (b && c))
and_last true b c = refl
and_last false b c = refl

and_all : (a : Bool) → (a && true) ≡ a
and_all true = refl
and_all false = refl

module _ (p : Option ℕ → Bool) where
  any_has : (number : Option ℕ) (numbers : List (Option ℕ)) → list_any (is_same number) numbers ≡ true → (list_any p numbers || p number) ≡ list_any p numbers
  any_has number [] e = absurd cc
  any_has number (n ∷ numbers) e = by_test (is_same number n) refl e (λ f. any_has number numbers f)
    where
      by_test : (t : Bool) → is_same number n ≡ t → (t || list_any (is_same number) numbers) ≡ true → (list_any (is_same number) numbers ≡ true → (list_any p numbers || p number) ≡ list_any p numbers)
          → ((p n || list_any p numbers) || p number) ≡ (p n || list_any p numbers)
      by_test true t e again = ap (λ m. (p n || list_any p numbers) || p m) (same_is number n t) ∙ or_again (p n) (list_any p numbers)
      by_test false t e again = or_with (p n) (list_any p numbers) (p number) (again e)

  all_has : (number : Option ℕ) (numbers : List (Option ℕ)) → list_any (is_same number) numbers ≡ true → (list_all p numbers && p number) ≡ list_all p numbers
  all_has number [] e = absurd cc
  all_has number (n ∷ numbers) e = by_test (is_same number n) refl e (λ f. all_has number numbers f)
    where
      by_test : (t : Bool) → is_same number n ≡ t → (t || list_any (is_same number) numbers) ≡ true → (list_any (is_same number) numbers ≡ true → (list_all p numbers && p number) ≡ list_all p numbers)
          → ((p n && list_all p numbers) && p number) ≡ (p n && list_all p numbers)
      by_test true t e again = ap (λ m. (p n && list_all p numbers) && p m) (same_is number n t) ∙ and_again (p n) (list_all p numbers)
      by_test false t e again = and_with (p n) (list_all p numbers) (p number) (again e)

  any_joined : (numbers : List (Option ℕ)) (number : Option ℕ) → list_any p (joined_once numbers number) ≡ (list_any p numbers || p number)
  any_joined numbers number = by_test (list_any (is_same number) numbers) refl
    where
      by_test : (t : Bool) → list_any (is_same number) numbers ≡ t → list_any p (cond t numbers (numbers ++ number ∷ [])) ≡ (list_any p numbers || p number)
      by_test true t = sym (any_has number numbers t)
      by_test false t = list_any-append p numbers (number ∷ []) ∙ ap (λ b. list_any p numbers || b) (or_none (p number))

  all_joined : (numbers : List (Option ℕ)) (number : Option ℕ) → list_all p (joined_once numbers number) ≡ (list_all p numbers && p number)
  all_joined numbers number = by_test (list_any (is_same number) numbers) refl
    where
      by_test : (t : Bool) → list_any (is_same number) numbers ≡ t → list_all p (cond t numbers (numbers ++ number ∷ [])) ≡ (list_all p numbers && p number)
      by_test true t = sym (all_has number numbers t)
      by_test false t = list_all-append p numbers (number ∷ []) ∙ ap (λ b. list_all p numbers && b) (and_all (p number))

  any_onto : (done numbers : List (Option ℕ)) → list_any p (fold joined_once done numbers) ≡ (list_any p done || list_any p numbers)
  any_onto done [] = sym (or_none (list_any p done))
  any_onto done (n ∷ numbers) =
      any_onto (joined_once done n) numbers ∙ (ap (λ b. b || list_any p numbers) (any_joined done n) ∙ or_last (list_any p done) (p n) (list_any p numbers))

  all_onto : (done numbers : List (Option ℕ)) → list_all p (fold joined_once done numbers) ≡ (list_all p done && list_all p numbers)
  all_onto done [] = sym (and_all (list_all p done))
  all_onto done (n ∷ numbers) =
      all_onto (joined_once done n) numbers ∙ (ap (λ b. b && list_all p numbers) (all_joined done n) ∙ and_last (list_all p done) (p n) (list_all p numbers))

  pub any_once : (numbers : List (Option ℕ)) → list_any p (each_once numbers) ≡ list_any p numbers
  any_once numbers = any_onto [] numbers

  pub all_once : (numbers : List (Option ℕ)) → list_all p (each_once numbers) ≡ list_all p numbers
  all_once numbers = all_onto [] numbers

  -- behind some others
  pub any_behind : (first numbers : List (Option ℕ)) → list_any p (first ++ each_once numbers) ≡ list_any p (first ++ numbers)
  any_behind first numbers =
      list_any-append p first (each_once numbers) ∙ (ap (λ b. list_any p first || b) (any_once numbers) ∙ sym (list_any-append p first numbers))

  pub all_behind : (first numbers : List (Option ℕ)) → list_all p (first ++ each_once numbers) ≡ list_all p (first ++ numbers)
  all_behind first numbers =
      list_all-append p first (each_once numbers) ∙ (ap (λ b. list_all p first && b) (all_once numbers) ∙ sym (list_all-append p first numbers))

module _ (P : Option ℕ → Type 0) where
  each_onto : (done numbers : List (Option ℕ)) → All P done → All P numbers → All P (fold joined_once done numbers)
  each_onto done [] h k = h
  each_onto done (n ∷ numbers) h k = each_onto (joined_once done n) numbers (by_test (list_any (is_same n) done)) (All-tail P n numbers k)
    where
      by_test : (t : Bool) → All P (cond t done (done ++ n ∷ []))
      by_test true = h
      by_test false = All-push P done n h (All-head P n numbers k)

  pub each_of_once : (numbers : List (Option ℕ)) → All P numbers → All P (each_once numbers)
  each_of_once numbers h = each_onto [] numbers (All-nil P) h

-- one item more
pub once_more : {X : Type 0} (f : X → Option ℕ) (xs : List X) (i : ℕ) (d : X) → i < length xs → each_once (map f (take (i + 1) xs)) ≡ joined_once (each_once (map f (take i xs))) (f (get_or xs i d))
once_more f xs i d h =
    ap (λ l. each_once (map f l)) (take_more xs i d h)
    ∙ (ap each_once (map-append f (take i xs) (get_or xs i d ∷ [])) ∙ fold-append joined_once [] (map f (take i xs)) (f (get_or xs i d) ∷ []))
