-- The methods that a class can inherit from its superinterfaces, class by class.
use Rattle.std.proofs.Common.{◌≡◌, ℕ, Bool, true, false, cond, not, ◌&&◌, ◌||◌, List, [], ◌∷◌, filter, Option, Some, None, refl, sym, ap, ◌∙◌}
use Rattle.std.specs.Prelude.{is_some}
use Rattle.std.specs.List.{list_any, filter_map, cons_option}
use Rattle.std.specs.Option.{option_map}
use Rattle.jv_class.specs.Class.{Method, method_named}
use Rattle.jv_meaning_world.specs.World.{Loaded, World}
use Rattle.jv_meaning_world.specs.Overriding.{Declared}
use Rattle.jv_meaning_world.specs.Verdicts.{declared_by}
use Rattle.jv_meaning_world.specs.LookUps.{method_if, method_in, without_itself, is_inheritable, is_concrete, is_below, candidates, maximally_specific, only, itself, first_found, else_option, searched_from, superinterface_method}
use Rattle.jv_meaning_world.specs.Numbers.{classes_at}
use Rattle.jv_lookups.specs.Inside.Members.{candidate_in, candidates_at, is_other_above, below_in, is_specific, specific_in}

-- ---- a candidate is its class's

pub candidate_by : (name descriptor : List ℕ) (l c : Loaded) (d : Declared) → candidate_in name descriptor l c ≡ Some d → d.by ≡ c
candidate_by name descriptor l c d e = by_test (without_itself l c) (method_named c.class name descriptor) e
  where
    by_flags : (m : Method) (t : Bool) → cond t (Some (declared_by c m)) None ≡ Some d → d.by ≡ c
    by_flags m true e = sym (ap (λ (x : Declared). x.by) (same e))
      where
        same : Some (declared_by c m) ≡ Some d → declared_by c m ≡ d
        same e = cc
    by_flags m false e = absurd cc

    by_test : (b : Bool) (o : Option Method) → cond b (method_if is_inheritable (option_map (declared_by c) o)) None ≡ Some d → d.by ≡ c
    by_test false o e = absurd cc
    by_test true None e = absurd cc
    by_test true (Some m) e = by_flags m (is_inheritable (declared_by c m)) e

-- ---- whether one is below a class

and_true : (b : Bool) → b ≡ (b && true)
and_true true = refl
and_true false = refl

and_false : (b : Bool) → (b && false) ≡ false
and_false true = refl
and_false false = refl

module _ (world : World) (name descriptor : List ℕ) (l by : Loaded) where
  any_below : (cs : List Loaded) → list_any (λ (other : Declared). is_other_above world by other.by)
      (filter_map (candidate_in name descriptor l) cs) ≡ list_any (below_in world name descriptor l by) cs
  any_below [] = refl
  any_below (c ∷ cs) = by_candidate (any_below cs) (candidate_in name descriptor l c) refl
    where
      by_candidate : list_any (λ (other : Declared). is_other_above world by other.by) (filter_map (candidate_in name descriptor l) cs) ≡
          list_any (below_in world name descriptor l by) cs → (o : Option Declared) → candidate_in name descriptor l c ≡ o
          → list_any (λ (other : Declared). is_other_above world by other.by) (cons_option o (filter_map (candidate_in name descriptor l) cs)) ≡
          ((is_other_above world by c && is_some o) || list_any (below_in world name descriptor l by) cs)
      by_candidate again None e = again ∙ sym (ap (λ b. b || list_any (below_in world name descriptor l by) cs) (and_false (is_other_above world by c)))
      by_candidate again (Some d) e =
          ap (λ (m : Loaded). is_other_above world by m || list_any (λ (other : Declared). is_other_above world by other.by)
          (filter_map (candidate_in name descriptor l) cs)) (candidate_by name descriptor l c d e)
          ∙ (ap (λ b. is_other_above world by c || b) again ∙ ap (λ b. b || list_any (below_in world name descriptor l by) cs) (and_true (is_other_above world by c)))

  pub below_same : (d : Declared) (cs : List Loaded) → d.by ≡ by → list_any (is_below world d) (filter_map (candidate_in name descriptor l) cs) ≡ list_any (below_in world name descriptor l by) cs
  below_same d cs e = ap (λ (m : Loaded). list_any (λ (other : Declared). is_other_above world m other.by) (filter_map (candidate_in name descriptor l) cs)) e ∙ any_below cs

-- ---- lists of them

module _ {A B : Type 0} (look : A → Option B) where
  pub first_same : (cs : List A) → first_found itself (filter_map look cs) ≡ first_found look cs
  first_same [] = refl
  first_same (c ∷ cs) = by_look (first_same cs) (look c)
    where
      by_look : first_found itself (filter_map look cs) ≡ first_found look cs → (o : Option B) → first_found itself (cons_option o (filter_map look cs)) ≡ else_option o (first_found look cs)
      by_look again None = again
      by_look again (Some b) = refl

passing_same : (test : Declared → Bool) (look : Loaded → Option Declared) (cs : List Loaded) → filter test (filter_map look cs) ≡ filter_map (λ c. method_if test (look c)) cs
passing_same test look [] = refl
passing_same test look (c ∷ cs) = by_look (passing_same test look cs) (look c)
  where
    by_test : filter test (filter_map look cs) ≡ filter_map (λ c. method_if test (look c)) cs → (d : Declared) (t : Bool) →
        cond t (d ∷ filter test (filter_map look cs)) (filter test (filter_map look cs)) ≡ cons_option (cond t (Some d) None)
        (filter_map (λ c. method_if test (look c)) cs)
    by_test again d true = ap (λ ds. d ∷ ds) again
    by_test again d false = again

    by_look : filter test (filter_map look cs) ≡ filter_map (λ c. method_if test (look c)) cs → (o : Option Declared) →
        filter test (cons_option o (filter_map look cs)) ≡ cons_option (method_if test o) (filter_map (λ c. method_if test (look c)) cs)
    by_look again None = again
    by_look again (Some d) = by_test again d (test d)

only_where : (test : Loaded → Bool) (look : Loaded → Option Declared) (cs : List Loaded) → filter_map look (filter test cs) ≡ filter_map (λ c. cond (test c) (look c) None) cs
only_where test look [] = refl
only_where test look (c ∷ cs) = by_test (only_where test look cs) (test c)
  where
    by_test : filter_map look (filter test cs) ≡ filter_map (λ c. cond (test c) (look c) None) cs → (t : Bool) →
        filter_map look (cond t (c ∷ filter test cs) (filter test cs)) ≡ cons_option (cond t (look c) None)
        (filter_map (λ c. cond (test c) (look c) None) cs)
    by_test again true = ap (cons_option (look c)) again
    by_test again false = again

both_tests : {A : Type 0} → (p q : A → Bool) (xs : List A) → filter p (filter q xs) ≡ filter (λ x. p x && q x) xs
both_tests p q [] = refl
both_tests p q (x ∷ xs) = by_tests (both_tests p q xs) (p x) (q x) refl
  where
    by_tests : filter p (filter q xs) ≡ filter (λ x. p x && q x) xs → (s t : Bool) → p x ≡ s → filter p (cond t (x ∷ filter q xs) (filter q xs)) ≡
        cond (s && t) (x ∷ filter (λ x. p x && q x) xs) (filter (λ x. p x && q x) xs)
    by_tests again true true e = ap (λ s. cond s (x ∷ filter p (filter q xs)) (filter p (filter q xs))) e ∙ ap (λ ys. x ∷ ys) again
    by_tests again true false e = again
    by_tests again false true e = ap (λ s. cond s (x ∷ filter p (filter q xs)) (filter p (filter q xs))) e ∙ again
    by_tests again false false e = again

pub candidates_same : (world : World) (searched : List ℕ) (name descriptor : List ℕ) (l : Loaded) → classes_at world searched ≡
    searched_from world l → candidates world l name descriptor ≡ candidates_at world searched name descriptor l
candidates_same world searched name descriptor l e =
    ap (λ cs. filter is_inheritable (filter_map (method_in name descriptor) (filter (without_itself l) cs))) (sym e)
    ∙ (ap (filter is_inheritable) (only_where (without_itself l) (method_in name descriptor) (classes_at world searched)) ∙
    (passing_same is_inheritable _ (classes_at world searched) ∙ inside (classes_at world searched)))
  where
    inner : (o : Option Declared) (t : Bool) → method_if is_inheritable (cond t o None) ≡ cond t (method_if is_inheritable o) None
    inner o true = refl
    inner o false = refl

    inside : (cs : List Loaded) → filter_map (λ c. method_if is_inheritable (cond (without_itself l c) (method_in name descriptor c) None)) cs ≡ filter_map (candidate_in name descriptor l) cs
    inside [] = refl
    inside (c ∷ cs) =
        ap (λ o. cons_option o (filter_map (λ c. method_if is_inheritable (cond (without_itself l c) (method_in name descriptor c) None)) cs))
        (inner (method_in name descriptor c) (without_itself l c))
        ∙ ap (cons_option (candidate_in name descriptor l c)) (inside cs)

-- what is specific

pub abstract_one : (world : World) (all : List Declared) (d : Declared) → is_concrete d ≡ false → is_specific world all d ≡ false
abstract_one world all d e = ap (λ b. b && not (list_any (is_below world d) all)) e

pub above_other : (world : World) (all : List Declared) (d : Declared) → is_concrete d ≡ true → list_any (is_below world d) all ≡ true → is_specific world all d ≡ false
above_other world all d e f = ap (λ b. b && not (list_any (is_below world d) all)) e ∙ ap not f

pub most_specific : (world : World) (all : List Declared) (d : Declared) → is_concrete d ≡ true → list_any (is_below world d) all ≡ false → is_specific world all d ≡ true
most_specific world all d e f = ap (λ b. b && not (list_any (is_below world d) all)) e ∙ ap not f

-- a class with such a method below it has none that is specific
pub none_specific : (world : World) (searched name descriptor : List ℕ) (l c : Loaded) → list_any (below_in world name descriptor l c) (classes_at world searched) ≡ true
    → None ≡ specific_in world (candidates_at world searched name descriptor l) name descriptor l c
none_specific world searched name descriptor l c e = by_candidate (candidate_in name descriptor l c) refl
  where
    by_concrete : (all : List Declared) (d : Declared) (b : Bool) → is_concrete d ≡ b → list_any (is_below world d) all ≡ true → is_specific world all d ≡ false
    by_concrete all d true f g = above_other world all d f g
    by_concrete all d false f g = abstract_one world all d f

    by_candidate : (o : Option Declared) → candidate_in name descriptor l c ≡ o → None ≡ method_if (is_specific world (candidates_at world searched name descriptor l)) o
    by_candidate None f = refl
    by_candidate (Some d) f =
        sym (ap (λ b. cond b (Some d) None)
        (by_concrete (candidates_at world searched name descriptor l) d (is_concrete d) refl
        (below_same world name descriptor l c d (classes_at world searched) (candidate_by name descriptor l c d f) ∙ e)))

pub specific_same : (world : World) (searched : List ℕ) (name descriptor : List ℕ) (l : Loaded)
    → filter is_concrete (maximally_specific world (candidates_at world searched name descriptor l)) ≡
    filter_map (specific_in world (candidates_at world searched name descriptor l) name descriptor l) (classes_at world searched)
specific_same world searched name descriptor l =
    let all = candidates_at world searched name descriptor l in
    both_tests is_concrete (λ d. not (list_any (is_below world d) all)) all ∙ passing_same (is_specific world all) (candidate_in name descriptor l) (classes_at world searched)

pub method_found : (world : World) (searched : List ℕ) (name descriptor : List ℕ) (l : Loaded) (o p : Option Declared) → classes_at world searched ≡ searched_from world l
    → o ≡ only (filter_map (specific_in world (candidates_at world searched name descriptor l) name descriptor l) (classes_at world searched))
    → p ≡ first_found (candidate_in name descriptor l) (classes_at world searched)
    → else_option o p ≡ superinterface_method world l name descriptor
method_found world searched name descriptor l o p e f g =
    ap (λ x. else_option x p) (f ∙ ap only (sym (specific_same world searched name descriptor l)))
    ∙ (ap (else_option (only (filter is_concrete (maximally_specific world (candidates_at world searched name descriptor l)))))
    (g ∙ sym (first_same (candidate_in name descriptor l) (classes_at world searched)))
    ∙ ap (λ all. else_option (only (filter is_concrete (maximally_specific world all))) (first_found itself all)) (sym (candidates_same world searched name descriptor l e)))

pub some_first : (o p : Option Declared) (d : Declared) → o ≡ Some d → o ≡ else_option o p
some_first o p d e = e ∙ sym (ap (λ x. else_option x p) e)
