-- What is found first among classes by number.
use Rattle.std.proofs.Common.{◌≡◌, ℕ, zero, suc, ◌+◌, ◌<◌, Bool, true, false, ◌||◌, List, [], ◌∷◌, length, get_or, drop, Option, Some, None, refl, sym, ap, ◌∙◌, arith, add-one}
use Rattle.std.specs.Prelude.{slice_get}
use Rattle.std.specs.List.{list_any, cons_option}
use Rattle.jv_meaning_world.specs.World.{Loaded, World}
use Rattle.jv_meaning_world.specs.LookUps.{first_found, else_option}
use Rattle.jv_meaning_world.specs.Numbers.{classes_at}

-- nothing was found before a place: the answer for the rest is the answer for all
abbrev pub IsLeft : {B : Type 0} → World → (Loaded → Option B) → List ℕ → ℕ → Type 0
IsLeft world look numbers place = first_found look (classes_at world (drop place numbers)) ≡ first_found look (classes_at world numbers)

module _ {B : Type 0} (world : World) (look : Loaded → Option B) where
  one_step : (numbers : List ℕ) (i k : ℕ) (l : Loaded) → i < length numbers → get_or numbers i 0 ≡ k → slice_get world k ≡ Some l
      → first_found look (classes_at world (drop i numbers)) ≡ else_option (look l) (first_found look (classes_at world (drop (suc i) numbers)))
  one_step [] i k l h e at = absurd (omega (arith, h))
  one_step (n ∷ numbers) zero k l h e at = ap (λ o. first_found look (cons_option o (classes_at world numbers))) (ap (slice_get world) e ∙ at)
  one_step (n ∷ numbers) (suc i) k l h e at = let less : i < length numbers = omega (arith, h) in one_step numbers i k l less e at

  pub step : (numbers : List ℕ) (i k : ℕ) (l : Loaded) → i < length numbers → get_or numbers i 0 ≡ k → slice_get world k ≡ Some l
      → first_found look (classes_at world (drop i numbers)) ≡ else_option (look l) (first_found look (classes_at world (drop (i + 1) numbers)))
  step numbers i k l h e at = one_step numbers i k l h e at ∙ ap (λ n. else_option (look l) (first_found look (classes_at world (drop n numbers)))) (sym (add-one i))

  pub passed : (numbers : List ℕ) (i k : ℕ) (l : Loaded) → i < length numbers → get_or numbers i 0 ≡ k → slice_get world k ≡ Some l → look l ≡ None →
      IsLeft world look numbers i → IsLeft world look numbers (i + 1)
  passed numbers i k l h e at none left = sym (step numbers i k l h e at ∙ ap (λ o. else_option o (first_found look (classes_at world (drop (i + 1) numbers)))) none) ∙ left

  pub found : (numbers : List ℕ) (i k : ℕ) (l : Loaded) (b : B) → i < length numbers → get_or numbers i 0 ≡ k → slice_get world k ≡ Some l → look l ≡
      Some b → IsLeft world look numbers i → Some b ≡ first_found look (classes_at world numbers)
  found numbers i k l b h e at some left = sym (step numbers i k l h e at ∙ ap (λ o. else_option o (first_found look (classes_at world (drop (i + 1) numbers)))) some) ∙ left

-- whether any passes
abbrev pub IsAnyLeft : World → (Loaded → Bool) → List ℕ → ℕ → Type 0
IsAnyLeft world test numbers place = list_any test (classes_at world (drop place numbers)) ≡ list_any test (classes_at world numbers)

module _ (world : World) where
  classes_step : (numbers : List ℕ) (i k : ℕ) (l : Loaded) → i < length numbers → get_or numbers i 0 ≡ k → slice_get world k ≡ Some l →
      classes_at world (drop i numbers) ≡ l ∷ classes_at world (drop (suc i) numbers)
  classes_step [] i k l h e at = absurd (omega (arith, h))
  classes_step (n ∷ numbers) zero k l h e at = ap (λ o. cons_option o (classes_at world numbers)) (ap (slice_get world) e ∙ at)
  classes_step (n ∷ numbers) (suc i) k l h e at = let less : i < length numbers = omega (arith, h) in classes_step numbers i k l less e at

  pub one_class_more : (numbers : List ℕ) (i k : ℕ) (l : Loaded) → i < length numbers → get_or numbers i 0 ≡ k → slice_get world k ≡ Some l →
      classes_at world (drop i numbers) ≡ l ∷ classes_at world (drop (i + 1) numbers)
  one_class_more numbers i k l h e at = classes_step numbers i k l h e at ∙ ap (λ n. l ∷ classes_at world (drop n numbers)) (sym (add-one i))

  pub no_class_left : (numbers : List ℕ) (i : ℕ) → length numbers ≡ i → classes_at world (drop i numbers) ≡ []
  no_class_left [] zero e = refl
  no_class_left [] (suc i) e = absurd (omega (arith, e))
  no_class_left (n ∷ numbers) zero e = absurd (omega (arith, e))
  no_class_left (n ∷ numbers) (suc i) e = let same : length numbers ≡ i = omega (arith, e) in no_class_left numbers i same

  module _ (test : Loaded → Bool) where
    any_step : (numbers : List ℕ) (i k : ℕ) (l : Loaded) (t : Bool) → i < length numbers → get_or numbers i 0 ≡ k → slice_get world k ≡ Some l → test l ≡ t → IsAnyLeft world test numbers i
        → (t || list_any test (classes_at world (drop (i + 1) numbers))) ≡ list_any test (classes_at world numbers)
    any_step numbers i k l t h e at is left =
        ap (λ b. b || list_any test (classes_at world (drop (i + 1) numbers))) (sym is) ∙ (ap (list_any test) (sym (one_class_more numbers i k l h e at)) ∙ left)

    pub any_passed : (numbers : List ℕ) (i k : ℕ) (l : Loaded) → i < length numbers → get_or numbers i 0 ≡ k → slice_get world k ≡ Some l → test l ≡
        false → IsAnyLeft world test numbers i → IsAnyLeft world test numbers (i + 1)
    any_passed numbers i k l h e at is left = any_step numbers i k l false h e at is left

    pub any_found : (numbers : List ℕ) (i k : ℕ) (l : Loaded) → i < length numbers → get_or numbers i 0 ≡ k → slice_get world k ≡ Some l → test l ≡
        true → IsAnyLeft world test numbers i → true ≡ list_any test (classes_at world numbers)
    any_found numbers i k l h e at is left = any_step numbers i k l true h e at is left
