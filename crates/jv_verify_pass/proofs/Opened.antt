-- Handlers in another order, and those that begin to cover.
use Rattle.std.proofs.Common.{◌≡◌, ℕ, zero, suc, ◌+◌, ◌≤◌, Bool, true, false, List, [], ◌∷◌, ◌++◌, length, take, refl, sym, ap, subst, ◌∙◌, arith}
use Rattle.std.specs.Prelude.{slice_get, Some}
use Rattle.std.specs.List.{list_all}
use Rattle.std.specs.List.Sorted.{IsPermutation}
use Rattle.std.proofs.lemmas.List.Sorted.{All-permutation, IsPermutation-sym}
use Rattle.std.proofs.lemmas.List.Sums.{AllPass-from_list_all, list_all-from_AllPass}
use Rattle.jv_format.specs.declared.handlers.Handler.{Handler}
use Rattle.jv_verify_pass.specs.Inside.Opening.{passes_at, AreAsGood}

-- in another order
pub as_good : (offset : ℕ) (xs ys : List Handler) → IsPermutation xs ys → AreAsGood offset ys xs
as_good offset xs ys same test = by_both (list_all p xs) refl (list_all p ys) refl
  where
    p : Handler → Bool
    p = passes_at offset test

    clash : true ≡ false → ⊥
    clash e = cc

    by_both : (a : Bool) → list_all p xs ≡ a → (b : Bool) → list_all p ys ≡ b → list_all p ys ≡ list_all p xs
    by_both true e true f = f ∙ sym e
    by_both false e false f = f ∙ sym e
    by_both true e false f =
        absurd (clash (sym (list_all-from_AllPass p ys (All-permutation (λ x. p x ≡ true) xs ys same (AllPass-from_list_all p xs e))) ∙ f))
    by_both false e true f =
        absurd (clash (sym (list_all-from_AllPass p xs (All-permutation (λ x. p x ≡ true) ys xs (IsPermutation-sym xs ys same) (AllPass-from_list_all p ys f))) ∙ e))

pub one_taken : (xs : List Handler) (k : ℕ) (x : Handler) → slice_get xs k ≡ Some x → take k xs ++ x ∷ [] ≡ take (k + 1) xs
one_taken xs k x at = subst (λ (n : ℕ). take k xs ++ x ∷ [] ≡ take n xs) next (grown xs k x at)
  where
    next : suc k ≡ k + 1
    next = omega arith

    grown : (xs : List Handler) (k : ℕ) (x : Handler) → slice_get xs k ≡ Some x → take k xs ++ x ∷ [] ≡ take (suc k) xs
    grown [] zero x e = absurd cc
    grown [] (suc k) x e = absurd cc
    grown (y ∷ xs) zero x e = let same : y ≡ x = cc in ap (λ z. z ∷ []) (sym same)
    grown (y ∷ xs) (suc k) x e = ap (λ zs. y ∷ zs) (grown xs k x e)

pub all_taken : (xs : List Handler) (k : ℕ) → length xs ≤ k → take k xs ≡ xs
all_taken [] zero le = refl
all_taken [] (suc k) le = refl
all_taken (x ∷ xs) zero le = absurd (omega (arith, le))
all_taken (x ∷ xs) (suc k) le = ap (λ zs. x ∷ zs) (all_taken xs k (omega (arith, le)))
