-- The verdicts on the first classes, one by one.
use Rattle.std.proofs.Common.{◌≡◌, ℕ, zero, suc, ◌+◌, List, [], ◌∷◌, ◌++◌, length, Option, Some, refl, ap, subst, sym, ◌∙◌, inl, inr}
use Rattle.std.specs.Prelude.{◌⊎◌, slice_get}
use Rattle.std.proofs.lemmas.List.{length-append}
use Rattle.jv_meaning_world.specs.Numbers.{HoldsAtNumber}
use Rattle.jv_meaning_world.specs.declared.verdict.LoadVerdict.{LoadVerdict}
use Rattle.jv_meaning_world.specs.Verdicts.{verdict_of_class}
use Rattle.jv_meaning_world.specs.World.{World}
use Rattle.jv_loader.specs.FirstVerdicts.{AreVerdictsOnFirst}

pub pushed : {X : Type 0} (xs : List X) (x : X) (k : ℕ) (y : X) → slice_get (xs ++ x ∷ []) k ≡ Some y → (slice_get xs k ≡ Some y) ⊎ ((k ≡ length xs) × (x ≡ y))
pushed [] x zero y e = inr (refl, cc)
pushed [] x (suc zero) y e = absurd cc
pushed [] x (suc (suc k)) y e = absurd cc
pushed (z ∷ xs) x zero y e = inl e
pushed (z ∷ xs) x (suc k) y e = by_again (pushed xs x k y e)
  where
    by_again : (slice_get xs k ≡ Some y) ⊎ ((k ≡ length xs) × (x ≡ y)) → (slice_get (z ∷ xs) (suc k) ≡ Some y) ⊎ ((suc k ≡ length (z ∷ xs)) × (x ≡ y))
    by_again (inl f) = inl f
    by_again (inr (at, same)) = inr (ap suc at, same)

module _ (world : World) (k : ℕ) (verdicts : List (Option LoadVerdict)) (are : AreVerdictsOnFirst world k verdicts) where
  pub one_verdict_more : (why : Option LoadVerdict) → HoldsAtNumber world k (λ l. why ≡ verdict_of_class world l) → (more : List (Option LoadVerdict)) → more ≡ verdicts ++ why ∷ []
      → AreVerdictsOnFirst world (k + 1) more
  one_verdict_more why is more e = record {
    length_is = ap length e ∙ (length-append verdicts (why ∷ []) ∙ ap (λ n. n + 1) are.length_is);
    verdict = λ number w at. by_place number w (pushed verdicts why number w (ap (λ vs. slice_get vs number) (sym e) ∙ at));
  }
    where
      by_place : (number : ℕ) (w : Option LoadVerdict) → (slice_get verdicts number ≡ Some w) ⊎ ((number ≡ length verdicts) × (why ≡ w))
          → HoldsAtNumber world number (λ l. w ≡ verdict_of_class world l)
      by_place number w (inl before) = are.verdict number w before
      by_place number w (inr (last, same)) =
          subst (λ n. HoldsAtNumber world n (λ l. w ≡ verdict_of_class world l)) (sym (last ∙ are.length_is))
          (subst (λ v. HoldsAtNumber world k (λ l. v ≡ verdict_of_class world l)) same is)
