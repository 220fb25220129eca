-- Items that stand one behind the other, and the first of them that breaks a rule.
use Rattle.std.proofs.Common.{◌≡◌, ℕ, ◌<◌, Bool, List, [], ◌∷◌, ◌++◌, Option, Some, None, refl, sym, ap, subst, ◌∙◌, append_assoc}
use Rattle.std.specs.Prelude.{IsTrue, IfSome}
use Rattle.std.specs.List.{flat_map, list_all}
use Rattle.std.proofs.lemmas.Bool.{and_from}
use Rattle.std.proofs.lemmas.Grind.{flat_map-append}
use Rattle.std.proofs.lemmas.List.{append-nil}
use Rattle.std.proofs.lemmas.List.Folds.{list_all-append}
use Rattle.jv_format.specs.Format.{half}
use Rattle.jv_malformed.specs.First.{IsFirstBreach, BeginsWithItems}

regroup : (h f x r : List ℕ) → (h ++ f) ++ (x ++ r) ≡ (h ++ (f ++ x)) ++ r
regroup h f x r = simp append_assoc

-- one item more
pub begins_on : {A : Type 0} (spelling : A → List ℕ) (may_stand : A → Bool) (count : ℕ) (items : List A) (rest after bytes : List ℕ) (x : A)
    → BeginsWithItems spelling may_stand count items rest bytes → rest ≡ spelling x ++ after → IsTrue (may_stand x)
    → BeginsWithItems spelling may_stand count (items ++ x ∷ []) after bytes
begins_on spelling may_stand count items rest after bytes x so_far is stands =
    let all : flat_map spelling (items ++ x ∷ []) ≡ flat_map spelling items ++ spelling x =
    flat_map-append spelling items (x ∷ []) ∙ ap (λ (t : List ℕ). flat_map spelling items ++ t) (append-nil (spelling x)) in
    record {
      count_fits = so_far.count_fits;
      stand = list_all-append may_stand items (x ∷ []) ∙ and_from (list_all may_stand items) (list_all may_stand (x ∷ [])) so_far.stand (and_from _ _ stands refl);
      begins =
          so_far.begins ∙ ap (λ (t : List ℕ). (half.spelling count ++ flat_map spelling items) ++ t) is
          ∙ regroup (half.spelling count) (flat_map spelling items) (spelling x) after
          ∙ ap (λ (t : List ℕ). (half.spelling count ++ t) ++ after) (sym all);
    }

-- the item at a place that breaks a rule, behind others that keep it
pub first_breach : {A : Type 0} (P : A → Type 0) (at : ℕ → Option A) (place : ℕ) → ((k : ℕ) → k < place → IfSome (at k) P)
    → (IfSome (at place) P → ⊥) → IsFirstBreach P at place
first_breach {A = A} P at place below broken = by_option (at place) refl
  where
    by_option : (o : Option A) → at place ≡ o → IsFirstBreach P at place
    by_option None e = absurd (broken (subst (λ (o : Option A). IfSome o P) (sym e) tt))
    by_option (Some x) e = record {
      item = x;
      here = e;
      breaks = λ keeps. broken (subst (λ (o : Option A). IfSome o P) (sym e) keeps);
      before = λ k other lt there. subst (λ (o : Option A). IfSome o P) there (below k lt);
    }
