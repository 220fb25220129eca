-- The packages found on the way up are those that are marked.
use Rattle.std.proofs.Common.{◌≡◌, ℕ, zero, suc, ◌+◌, ◌*◌, ◌<◌, ◌≤◌, Bool, true, false, cond, ◌||◌, List, [], ◌∷◌, length, drop, get_or, set, nat_eq, take, ◌++◌, ◌&&◌, inl, inr, ◌⊎◌, ◌≢◌, Option, Some, None, refl, sym, ap, ◌∙◌, subst, arith, add-one, get_or-set_same, get_or-set_other}
use Rattle.std.specs.Prelude.{slice_get, replicate, not}
use Rattle.std.specs.List.{All, cons_option}
use Rattle.std.specs.Option.{option_map}
use Rattle.std.proofs.lemmas.Bool.{eqb-true, eqb-false, eq-eqb, and_parts, or_cases, or_right, cases_order}
use Rattle.std.proofs.lemmas.Bool.Decides.{eqb_tells}
use Rattle.std.proofs.lemmas.List.{length-replicate, length-set, length-drop, drop_all, take-append-drop, get_or-drop, get_or_default}
use Rattle.std.proofs.lemmas.List.Elements.{filter_map-append}
use Rattle.std.proofs.lemmas.Option.{slice_get_read}
use Rattle.std.proofs.Math.Seq.{drop-cons}
use Rattle.jv_class_structure.specs.Flags.{has, acc_private, acc_final}
use Rattle.jv_class.specs.Class.{Method, method_named}
use Rattle.jv_meaning_world.specs.World.{Loaded, same_package}
use Rattle.jv_meaning_world.specs.Overriding.{Declared, is_instance, declared_if, alike_in}
use Rattle.jv_meaning_world.specs.Verdicts.{passes, declared_by}
use Rattle.jv_meaning_world.specs.Numbers.{classes_at, AreNumbers}
use Rattle.jv_lookups.specs.Packages.{AreNumbered}
use Rattle.jv_lookups.specs.Inside.Fronts.{AreUnmarked, IsUpToFinal, OverridesNoFinal}
use Rattle.jv_lookups.specs.Inside.Keys.{AreAsked, TellsFinalsOf, is_wanted, is_any_marked, is_looked_at}
use Rattle.jv_lookups.specs.Inside.Overridden.{have_package, with_overridden, overrides_final, overrides_final_above}
use Rattle.jv_lookups.specs.Inside.Steps.{flags_alike, declares_final_alike, is_final_if, is_overridden_if, is_alike_overridden_if, is_final_overridden_if, is_found_if}
use Rattle.jv_lookups.proofs.Passing.{some_at, and_none}

-- ---- one class further up

step_found : (found : List Loaded) (s : Loaded) (m : Method) → with_overridden found (alike_in s m) ≡ cond (is_found_if (have_package found s) (flags_alike s m)) (s ∷ found) found
step_found found s m = by_method (method_named s.class m.name m.descriptor)
  where
    by_instance : (n : Method) (b : Bool) → with_overridden found (cond b (Some (declared_by s n)) None)
        ≡ cond (is_found_if (have_package found s) (option_map (λ (d : Declared). d.method.access_flags) (cond b (Some (declared_by s n)) None))) (s ∷ found) found
    by_instance n true = refl
    by_instance n false = refl

    by_method : (o : Option Method) → with_overridden found (declared_if s o)
        ≡ cond (is_found_if (have_package found s) (option_map (λ (d : Declared). d.method.access_flags) (declared_if s o))) (s ∷ found) found
    by_method None = refl
    by_method (Some n) = by_instance n (is_instance n)

step_final : (found : List Loaded) (s : Loaded) (m : Method) → overrides_final found (alike_in s m) ≡ is_final_overridden_if (have_package found s) (flags_alike s m)
step_final found s m = by_method (method_named s.class m.name m.descriptor)
  where
    by_instance : (n : Method) (b : Bool) → overrides_final found (cond b (Some (declared_by s n)) None)
        ≡ is_final_overridden_if (have_package found s) (option_map (λ (d : Declared). d.method.access_flags) (cond b (Some (declared_by s n)) None))
    by_instance n true = refl
    by_instance n false = refl

    by_method : (o : Option Method) → overrides_final found (declared_if s o) ≡ is_final_overridden_if (have_package found s) (option_map (λ (d : Declared). d.method.access_flags) (declared_if s o))
    by_method None = refl
    by_method (Some n) = by_instance n (is_instance n)

-- ---- marks

pub number_within : (classes : List Loaded) (packages : List ℕ) (marks : List Bool) (place : ℕ) → AreNumbered classes packages →
    2 * length classes ≤ length marks → place < length classes → get_or packages place 0 < length marks
number_within classes packages marks place numbered room h =
    let many : length packages ≡ length classes = numbered.one_each in
    let less : get_or packages place 0 < 2 * length classes = numbered.below place 0 (omega (arith, many, h)) in
    omega (arith, less, room)

-- of the packages in which one of these classes is marked by the row, those of the classes found are marked
abbrev pub ArePackagesMarked : List Loaded → List ℕ → List Bool → List ℕ → List Bool → List Loaded → Type 0
ArePackagesMarked classes packages row rest marks found =
    (place : ℕ) (l : Loaded) → slice_get classes place ≡ Some l → is_wanted packages row rest (get_or packages place 0) ≡ true → get_or marks (get_or packages place 0) false ≡ have_package found l

own_package : (classes : List Loaded) (packages : List ℕ) (place k : ℕ) (s l : Loaded) → AreNumbered classes packages → slice_get classes place ≡
    Some s → slice_get classes k ≡ Some l → (b : Bool) → nat_eq (get_or packages place 0) (get_or packages k 0) ≡ b
    → same_package s l ≡ b
own_package classes packages place k s l numbered at e b is = sym (numbered.same place k s l at e) ∙ is

first_marked : (classes : List Loaded) (packages : List ℕ) (row : List Bool) (rest : List ℕ) (n of : ℕ) (l : Loaded) → AreNumbered classes packages →
    get_or packages of 0 < n → slice_get classes of ≡ Some l
    → ArePackagesMarked classes packages row rest (set (replicate n false) (get_or packages of 0) true) (l ∷ [])
first_marked classes packages row rest n of l numbered within at k j e w =
    by_test (nat_eq (get_or packages of 0) (get_or packages k 0)) refl ∙ ap (λ b. b || false) (numbered.same of k l j at e)
  where
    unmarked : (n k : ℕ) → get_or (replicate n false) k false ≡ false
    unmarked zero k = refl
    unmarked (suc n) zero = refl
    unmarked (suc n) (suc k) = unmarked n k

    by_test : (b : Bool) → nat_eq (get_or packages of 0) (get_or packages k 0) ≡ b → get_or (set (replicate n false) (get_or packages of 0) true)
        (get_or packages k 0) false ≡ (nat_eq (get_or packages of 0) (get_or packages k 0) || false)
    by_test true t =
        ap (λ q. get_or (set (replicate n false) (get_or packages of 0) true) q false) (sym (eqb-true (get_or packages of 0) (get_or packages k 0) t))
        ∙ (get_or-set_same (replicate n false) (get_or packages of 0) true false (subst (λ q. get_or packages of 0 < q) (sym (length-replicate n false)) within) ∙ ap (λ b. b || false) (sym t))
    by_test false t =
        let other : get_or packages k 0 ≡ get_or packages of 0 → ⊥ = λ same. eqb-false (get_or packages of 0) (get_or packages k 0) t (sym same) in
        get_or-set_other (replicate n false) (get_or packages of 0) (get_or packages k 0) true false other ∙ (unmarked n (get_or packages k 0) ∙ ap (λ b. b || false) (sym t))

-- ---- the way up

-- of the classes found, whose packages are marked, the rest of the way says what the whole way says
pub record IsWalked (classes : List Loaded) (packages : List ℕ) (row marks : List Bool) (m : Method) (rest : List ℕ) (whole : Bool) : Type 0 where
  pub found : List Loaded
  pub marked : ArePackagesMarked classes packages row rest marks found
  pub same : overrides_final_above m found (classes_at classes rest) ≡ whole

pub way_begins : (classes : List Loaded) (packages : List ℕ) (row cleared marks : List Bool) (k n : ℕ) (m : Method) (chain : List ℕ) (of : ℕ) →
    AreNumbered classes packages → 2 * length classes ≤ n → of < length classes
    → k ≡ n → cleared ≡ replicate k false → marks ≡ set cleared (get_or packages of 0) true
    → IsWalked classes packages row marks m chain (passes (λ c. overrides_final_above m (c ∷ []) (classes_at classes chain)) (slice_get classes of)) × (length marks ≡ n)
way_begins classes packages row cleared marks k n m chain of numbered room here many unmarked marked =
    let found = some_at classes of here in
    let Walked : List Bool → Type 0 = λ ms. IsWalked classes packages row ms m chain (passes (λ c. overrides_final_above m (c ∷ []) (classes_at classes chain)) (slice_get classes of)) in
    let same : marks ≡ set (replicate n false) (get_or packages of 0) true = marked ∙ ap (λ ms. set ms (get_or packages of 0) true) (unmarked ∙ ap (λ j. replicate j false) many) in
    let within = number_within classes packages (replicate n false) of numbered (subst (λ j. 2 * length classes ≤ j) (sym (length-replicate n false)) room) here in
    let begun : Walked (set (replicate n false) (get_or packages of 0) true) = record {
      found = found.0 ∷ [];
      marked = first_marked classes packages row chain n of found.0 numbered (subst (λ j. get_or packages of 0 < j) (length-replicate n false) within) found.1;
      same = ap (passes (λ c. overrides_final_above m (c ∷ []) (classes_at classes chain))) (sym found.1);
    } in (
      subst Walked (sym same) begun,
      ap length same ∙ (length-set (replicate n false) (get_or packages of 0) true ∙ length-replicate n false),
    )

module _ (classes : List Loaded) (packages : List ℕ) (row marks : List Bool) (m : Method) (n : ℕ) (rest : List ℕ) (s : Loaded) (whole : Bool) (numbered : AreNumbered classes packages)
    (walked : IsWalked classes packages row marks m (n ∷ rest) whole) (at : slice_get classes n ≡ Some s) (tells : TellsFinalsOf classes row m) where
  abbrev pub number : ℕ
  number = get_or packages n 0

  abbrev pub flags : Option ℕ
  flags = flags_alike s m

  own_wanted : get_or row n false ≡ true → is_wanted packages row (n ∷ rest) number ≡ true
  own_wanted h = ap (λ b. (b && nat_eq number number) || is_wanted packages row rest number) h ∙ ap (λ b. b || is_wanted packages row rest number) (eq-eqb number number refl)

  unmarked_final : get_or row n false ≡ false → (b : Bool) → is_final_overridden_if b flags ≡ false
  unmarked_final h false = sym (step_final [] s m) ∙ tells.none n s [] at h
  unmarked_final h true =
      ap (λ b. is_final_overridden_if b flags) (sym (ap (λ b. b || false) (own_package classes packages n n s s numbered at at true (eq-eqb number number refl))))
      ∙ (sym (step_final (s ∷ []) s m) ∙ tells.none n s (s ∷ []) at h)

  -- where a superclass's final method is overridden, one is on the whole way
  way_broken : is_final_overridden_if (get_or marks number false) flags ≡ true → true ≡ whole
  way_broken broken = by_row (get_or row n false) refl
    where
      by_row : (b : Bool) → get_or row n false ≡ b → true ≡ whole
      by_row false h = let none = unmarked_final h (get_or marks number false) in absurd cc
      by_row true h =
          ap (λ b. b || overrides_final_above m (with_overridden walked.found (alike_in s m)) (classes_at classes rest))
          (sym broken ∙ (ap (λ b. is_final_overridden_if b flags) (walked.marked n s at (own_wanted h)) ∙ sym (step_final walked.found s m)))
          ∙ (ap (λ o. overrides_final_above m walked.found (cons_option o (classes_at classes rest))) (sym at) ∙ walked.same)

  not_final : (o : Option ℕ) → is_alike_overridden_if false o ≡ false → is_final_overridden_if false o ≡ false
  not_final None h = refl
  not_final (Some f) h = ap (λ b. has f acc_final && b) h ∙ and_none (has f acc_final)

  not_found : (o : Option ℕ) → is_alike_overridden_if false o ≡ false → is_found_if false o ≡ false
  not_found None h = refl
  not_found (Some f) h = ap (λ b. b && not (has f acc_private)) h

  module _ (asked after : List Bool) (within : number < length marks) (asks : is_any_marked row (length classes) n ≡ true → is_wanted packages row
      (n ∷ rest) number ≡ true → get_or asked n false ≡ true) where
    abbrev pub may : Bool → Bool
    may found = get_or row (cond found n (length classes + n)) false

    abbrev pub looked : Bool
    looked = get_or asked n false && may (get_or marks number false)

    any_marked : (f : Bool) → may f ≡ true → is_any_marked row (length classes) n ≡ true
    any_marked true e = ap (λ b. b || get_or row (length classes + n) false) e
    any_marked false e = or_right (get_or row n false) (get_or row (length classes + n) false) e

    -- no final method of the class is overridden
    fails : (f a t : Bool) → a ≡ true → may f ≡ t → get_or row n false ≡ true → false ≡ ((a && t) && is_final_overridden_if f flags) → is_final_overridden_if f flags ≡ false
    fails f false t ha e h kept = absurd cc
    fails f true true ha e h kept = sym kept
    fails true true false ha e h kept = absurd cc
    fails false true false ha e h kept = not_final flags (tells.closed n s at e)

    none_overridden : false ≡ (looked && is_final_overridden_if (get_or marks number false) flags) → overrides_final walked.found (alike_in s m) ≡ false
    none_overridden kept = by_row (get_or row n false) refl
      where
        by_row : (b : Bool) → get_or row n false ≡ b → overrides_final walked.found (alike_in s m) ≡ false
        by_row false h = tells.none n s walked.found at h
        by_row true h =
            step_final walked.found s m
            ∙ (ap (λ b. is_final_overridden_if b flags) (sym (walked.marked n s at (own_wanted h)))
            ∙ fails (get_or marks number false) (get_or asked n false) (may (get_or marks number false)) (asks (any_marked true h) (own_wanted h)) refl h kept)

    -- the packages that still count are marked as they have to be
    module _ (k : ℕ) (l : Loaded) (e : slice_get classes k ≡ Some l) (w : is_wanted packages row rest (get_or packages k 0) ≡ true) where
      abbrev pub q : ℕ
      q = get_or packages k 0

      wanted : is_wanted packages row (n ∷ rest) q ≡ true
      wanted = or_right (get_or row n false && nat_eq number q) (is_wanted packages row rest q) w

      its : get_or marks q false ≡ have_package walked.found l
      its = walked.marked k l e wanted

      -- another package
      aside : nat_eq number q ≡ false → (b c : Bool) → get_or (cond b (cond c (set marks number true) marks) marks) q false ≡ get_or marks q false
      aside d true true = get_or-set_other marks number q true false (λ same. eqb-false number q d (sym same))
      aside d true false = refl
      aside d false c = refl

      apart : nat_eq number q ≡ false → (b : Bool) → have_package (cond b (s ∷ walked.found) walked.found) l ≡ have_package walked.found l
      apart d true = ap (λ b. b || have_package walked.found l) (own_package classes packages n k s l numbered at e false d)
      apart d false = refl

      -- its own package
      here : nat_eq number q ≡ true → get_or marks number false ≡ have_package walked.found l
      here d = ap (λ x. get_or marks x false) (eqb-true number q d) ∙ its

      joined : nat_eq number q ≡ true → true ≡ (same_package s l || have_package walked.found l)
      joined d = ap (λ b. b || have_package walked.found l) (sym (own_package classes packages n k s l numbered at e true d))

      by_found : nat_eq number q ≡ true → (c : Bool) → get_or (cond c (set marks number true) marks) number false ≡ have_package (cond c (s ∷ walked.found) walked.found) l
      by_found d true = get_or-set_same marks number true false within ∙ joined d
      by_found d false = here d

      still : nat_eq number q ≡ true → get_or marks number false ≡ true → (c : Bool) → get_or marks number false ≡ have_package (cond c (s ∷ walked.found) walked.found) l
      still d h true = h ∙ joined d
      still d h false = here d

      passed_over : (a c : Bool) → get_or (cond (a && false) (cond c (set marks number true) marks) marks) number false ≡ get_or marks number false
      passed_over true c = refl
      passed_over false c = refl

      core : nat_eq number q ≡ true → (f a t : Bool) → (t ≡ true → a ≡ true) → get_or marks number false ≡ f → may f ≡ t
          → get_or (cond (a && t) (cond (is_found_if f flags) (set marks number true) marks) marks) number false ≡ have_package (cond (is_found_if f flags) (s ∷ walked.found) walked.found) l
      core d f false true ha hf m = let never : false ≡ true = ha refl in absurd cc
      core d f true true ha hf m = by_found d (is_found_if f flags)
      core d true a false ha hf m = passed_over a (is_found_if true flags) ∙ still d hf (is_found_if true flags)
      core d false a false ha hf m =
          passed_over a (is_found_if false flags)
          ∙ (here d ∙ ap (λ b. have_package (cond b (s ∷ walked.found) walked.found) l) (sym (not_found flags (tells.closed n s at m))))

      marked_at : after ≡ cond looked (cond (is_found_if (get_or marks number false) flags) (set marks number true) marks) marks →
          get_or after q false ≡ have_package (with_overridden walked.found (alike_in s m)) l
      marked_at made = by_place (nat_eq number q) refl
        where
          of_own : nat_eq number q ≡ true → get_or after q false ≡ have_package (with_overridden walked.found (alike_in s m)) l
          of_own d =
              let same : number ≡ q = eqb-true number q d in
              let own : is_wanted packages row (n ∷ rest) number ≡ true = ap (is_wanted packages row (n ∷ rest)) same ∙ wanted in
              ap (λ x. get_or after x false) (sym same)
              ∙ (ap (λ ms. get_or ms number false) made
              ∙ (core d (get_or marks number false) (get_or asked n false) (may (get_or marks number false)) (λ e. asks (any_marked (get_or marks number false) e) own) refl refl
              ∙ sym (ap (λ f. have_package f l) (step_found walked.found s m ∙ ap (λ b. cond (is_found_if b flags) (s ∷ walked.found) walked.found) (sym (walked.marked n s at own))))))

          by_place : (b : Bool) → nat_eq number q ≡ b → get_or after q false ≡ have_package (with_overridden walked.found (alike_in s m)) l
          by_place true d = of_own d
          by_place false d =
              ap (λ ms. get_or ms q false) made
              ∙ (aside d looked (is_found_if (get_or marks number false) flags)
              ∙ (its ∙ sym (ap (λ f. have_package f l) (step_found walked.found s m) ∙ apart d (is_found_if (have_package walked.found s) flags))))

    -- where no final method is overridden, the way goes on
    way_goes_on : false ≡ (looked && is_final_overridden_if (get_or marks number false) flags) → after ≡
        cond looked (cond (is_found_if (get_or marks number false) flags) (set marks number true) marks) marks
        → IsWalked classes packages row after m rest whole
    way_goes_on kept made = record {
      found = with_overridden walked.found (alike_in s m);
      marked = λ k l e w. marked_at k l e w made;
      same = ap (λ b. b || overrides_final_above m (with_overridden walked.found (alike_in s m)) (classes_at classes rest)) (sym (none_overridden kept))
          ∙ (ap (λ o. overrides_final_above m walked.found (cons_option o (classes_at classes rest))) (sym at) ∙ walked.same);
    }

-- ---- the same by a place of the chain

class_there : (classes : List Loaded) (chain : List ℕ) (i : ℕ) (s : Loaded) → AreNumbers classes chain → i < length chain → s ≡
    get_or classes (get_or chain i 0) s → slice_get classes (get_or chain i 0) ≡ Some s
class_there classes chain i s numbers h e = slice_get_read classes (length classes) (get_or chain i 0) s refl (numbers i 0 h) e

next_place : (chain : List ℕ) (i : ℕ) → i < length chain → drop i chain ≡ get_or chain i 0 ∷ drop (i + 1) chain
next_place chain i h = drop-cons chain i 0 h ∙ ap (λ k. get_or chain i 0 ∷ drop k chain) (sym (add-one i))

module _ (classes : List Loaded) (packages : List ℕ) (row marks : List Bool) (m : Method) (chain : List ℕ) (i : ℕ) (s : Loaded) (whole : Bool)
    (numbers : AreNumbers classes chain) (h : i < length chain)
    (e : s ≡ get_or classes (get_or chain i 0) s) (numbered : AreNumbered classes packages) (tells : TellsFinalsOf classes row m)
    (walked : IsWalked classes packages row marks m (drop i chain) whole) where
  abbrev pub there_package : ℕ
  there_package = get_or packages (get_or chain i 0) 0

  walked_here : IsWalked classes packages row marks m (get_or chain i 0 ∷ drop (i + 1) chain) whole
  walked_here = subst (λ rest. IsWalked classes packages row marks m rest whole) (next_place chain i h) walked

  pub chain_broken : (answer : Bool) → true ≡ (answer && is_final_overridden_if (get_or marks there_package false) (flags_alike s m)) → true ≡ whole
  chain_broken answer broken =
      way_broken classes packages row marks m (get_or chain i 0) (drop (i + 1) chain) s whole numbered walked_here (class_there classes chain i s numbers h e) tells
      (and_parts answer (is_final_overridden_if (get_or marks there_package false) (flags_alike s m)) (sym broken)).1

  pub chain_goes_on : (asked after : List Bool) (n : ℕ) → 2 * length classes ≤ n → length marks ≡ n → AreAsked packages row (length classes) asked (drop i chain)
      → (answer : Bool) → answer ≡ is_looked_at row asked marks (length classes) there_package (get_or chain i 0)
      → false ≡ (answer && is_final_overridden_if (get_or marks there_package false) (flags_alike s m))
      → after ≡ cond answer (cond (is_found_if (get_or marks there_package false) (flags_alike s m)) (set marks there_package true) marks) marks
      → IsWalked classes packages row after m (drop (i + 1) chain) whole × (length after ≡ n) × AreAsked packages row (length classes) asked (drop (i + 1) chain)
  chain_goes_on asked after n room long are answer is kept made =
      let asks : AreAsked packages row (length classes) asked (get_or chain i 0 ∷ drop (i + 1) chain) = subst (AreAsked packages row (length classes) asked) (next_place chain i h) are in (
        way_goes_on classes packages row marks m (get_or chain i 0) (drop (i + 1) chain) s whole numbered walked_here (class_there classes chain i s numbers h e) tells asked after
            (number_within classes packages marks (get_or chain i 0) numbered (subst (λ k. 2 * length classes ≤ k) (sym long) room) (numbers i 0 h)) asks.0
            (kept ∙ ap (λ b. b && is_final_overridden_if (get_or marks there_package false) (flags_alike s m)) is)
            (made ∙ ap (λ b. cond b (cond (is_found_if (get_or marks there_package false) (flags_alike s m)) (set marks there_package true) marks) marks) is),
        ap length made ∙ (by_test answer (is_found_if (get_or marks there_package false) (flags_alike s m)) ∙ long),
        asks.1,
      )
    where
      by_test : (a b : Bool) → length (cond a (cond b (set marks there_package true) marks) marks) ≡ length marks
      by_test true true = length-set marks there_package true
      by_test true false = refl
      by_test false b = refl

-- ---- what is asked for, from the last class of the chain down

-- the packages of the marked classes are marked
abbrev pub AreWantedMarked : List ℕ → List Bool → List ℕ → List Bool → Type 0
AreWantedMarked packages row rest marks = (number : ℕ) → is_wanted packages row rest number ≡ true → get_or marks number false ≡ true

stays : (xs : List Bool) (b : Bool) (k j : ℕ) → k < length xs → get_or xs j false ≡ true → get_or (cond b (set xs k true) xs) j false ≡ true
stays xs false k j within h = h
stays xs true k j within h = by_place (eqb_tells j k)
  where
    by_place : ((nat_eq j k ≡ true) × (j ≡ k)) ⊎ ((nat_eq j k ≡ false) × (j ≢ k)) → get_or (set xs k true) j false ≡ true
    by_place (inl same) = ap (λ n. get_or (set xs k true) n false) same.1 ∙ get_or-set_same xs k true false within
    by_place (inr other) = get_or-set_other xs k j true false other.1 ∙ h

-- one mark more is within the same room
pub same_many : (after marks : List Bool) (b : Bool) (k : ℕ) → after ≡ cond b (set marks k true) marks → length after ≡ length marks
same_many after marks true k e = ap length e ∙ length-set marks k true
same_many after marks false k e = ap length e

asked_still : (packages : List ℕ) (row : List Bool) (many : ℕ) (asked after : List Bool) →
    ((k : ℕ) → get_or asked k false ≡ true → get_or after k false ≡ true) → (chain : List ℕ) → AreAsked packages row many asked chain →
    AreAsked packages row many after chain
asked_still packages row many asked after still [] are = tt
asked_still packages row many asked after still (n ∷ chain) are = (λ any w. still n (are.0 any w), asked_still packages row many asked after still chain are.1)

pub none_asked : (packages : List ℕ) (row : List Bool) (many : ℕ) (asked marks : List Bool) (chain : List ℕ) (i : ℕ) → length chain ≤ i →
    AreAsked packages row many asked (drop i chain) × AreWantedMarked packages row (drop i chain) marks
none_asked packages row many asked marks chain i past =
    subst (λ rest. AreAsked packages row many asked rest × AreWantedMarked packages row rest marks) (sym (drop_all i chain past)) (tt, λ number w. absurd cc)

module _ (packages : List ℕ) (row : List Bool) (many : ℕ) (asked marks asked_on marks_on : List Bool) (chain : List ℕ) (i j : ℕ) (within : i < length chain) (before : i + 1 ≡ j) where
  pub one_more_asked : get_or packages (get_or chain i 0) 0 < length marks → get_or chain i 0 < length asked
      → marks_on ≡ cond (get_or row (get_or chain i 0) false) (set marks (get_or packages (get_or chain i 0) 0) true) marks
      → asked_on ≡ cond (is_any_marked row many (get_or chain i 0) && get_or marks_on (get_or packages (get_or chain i 0) 0) false) (set asked (get_or chain i 0) true) asked
      → AreAsked packages row many asked (drop j chain) → AreWantedMarked packages row (drop j chain) marks
      → AreAsked packages row many asked_on (drop i chain) × AreWantedMarked packages row (drop i chain) marks_on
  one_more_asked room space marks_made asked_made are wanted =
      subst (λ rest. AreAsked packages row many asked_on rest × AreWantedMarked packages row rest marks_on)
      (sym (next_place chain i within ∙ ap (λ k. get_or chain i 0 ∷ drop k chain) before))
      ((λ any w. asks any (wanted_on (get_or packages (get_or chain i 0) 0) w), asked_still packages row many asked asked_on still (drop j chain) are), wanted_on)
    where
      place : ℕ
      place = get_or chain i 0

      wanted_on : AreWantedMarked packages row (place ∷ drop j chain) marks_on
      wanted_on number w = ap (λ ms. get_or ms number false) marks_made ∙
          by_first (or_cases (get_or row place false && nat_eq (get_or packages place 0) number) (is_wanted packages row (drop j chain) number) w)
        where
          set_now : (b : Bool) → b ≡ true → get_or (cond b (set marks (get_or packages place 0) true) marks) (get_or packages place 0) false ≡ true
          set_now true e = get_or-set_same marks (get_or packages place 0) true false room
          set_now false e = absurd cc

          by_first : ((get_or row place false && nat_eq (get_or packages place 0) number) ≡ true) ⊎ (is_wanted packages row (drop j chain) number ≡ true)
              → get_or (cond (get_or row place false) (set marks (get_or packages place 0) true) marks) number false ≡ true
          by_first (inl d) =
              let parts = and_parts (get_or row place false) (nat_eq (get_or packages place 0) number) d in
              ap (λ n. get_or (cond (get_or row place false) (set marks (get_or packages place 0) true) marks) n false) (sym (eqb-true (get_or packages place 0) number parts.1))
              ∙ set_now (get_or row place false) parts.0
          by_first (inr d) = stays marks (get_or row place false) (get_or packages place 0) number room (wanted number d)

      asks : is_any_marked row many place ≡ true → get_or marks_on (get_or packages place 0) false ≡ true → get_or asked_on place false ≡ true
      asks any h =
          ap (λ a. get_or a place false)
          (asked_made ∙ (ap (λ b. cond (b && get_or marks_on (get_or packages place 0) false) (set asked place true) asked) any ∙
          ap (λ b. cond b (set asked place true) asked) h))
          ∙ get_or-set_same asked place true false space

      still : (k : ℕ) → get_or asked k false ≡ true → get_or asked_on k false ≡ true
      still k h = ap (λ a. get_or a k false) asked_made ∙ stays asked (is_any_marked row many place && get_or marks_on (get_or packages place 0) false) place k space h

-- ---- what lies behind the last one that declares a final method

-- the row does not mark the class
pub unmarked_overrides_none : (classes : List Loaded) (row : List Bool) (m : Method) (place : ℕ) → TellsFinalsOf classes row m → get_or row place false ≡ false → OverridesNoFinal classes m place
unmarked_overrides_none classes row m place tells h s found at = tells.none place s found at h

-- the class declares no final method with the name and descriptor
pub none_final_overrides_none : (classes : List Loaded) (m : Method) (place : ℕ) (l : Loaded) → place < length classes → l ≡ get_or classes place l →
    declares_final_alike l m ≡ false → OverridesNoFinal classes m place
none_final_overrides_none classes m place l within is h s found at =
    step_final found s m ∙ by_flags (flags_alike s m) (subst (λ k. declares_final_alike k m ≡ false) (of_some l s (sym (slice_get_read classes (length classes) place l refl within is) ∙ at)) h)
  where
    of_some : (a b : Loaded) → Some a ≡ Some b → a ≡ b
    of_some a b e = cc

    by_flags : (o : Option ℕ) → is_final_if o ≡ false → is_final_overridden_if (have_package found s) o ≡ false
    by_flags None h = refl
    by_flags (Some flags) h = ap (λ b. b && is_overridden_if (have_package found s) flags) h

-- one more place from the end: no class is marked before it, and none declares a final method behind it
pub none_behind_more : (classes : List Loaded) (row : List Bool) (m : Method) (chain : List ℕ) (end last before : ℕ) (l : Loaded) →
    TellsFinalsOf classes row m → AreNumbers classes chain → last + 1 ≡ end → end ≤ length chain
    → ((k : ℕ) → end ≤ k → k < length chain → OverridesNoFinal classes m (get_or chain k 0)) → l ≡ get_or classes (get_or chain last 0) l → false ≡ declares_final_alike l m
    → AreUnmarked row chain before last → (k : ℕ) → before ≤ k → k < length chain → OverridesNoFinal classes m (get_or chain k 0)
none_behind_more classes row m chain end last before l tells numbers next within none is kept unmarked k from less = by_place (cases_order k last)
  where
    by_place : (k ≡ last) ⊎ ((k < last) ⊎ (last < k)) → OverridesNoFinal classes m (get_or chain k 0)
    by_place (inl here) =
        subst (λ j. OverridesNoFinal classes m (get_or chain j 0)) (sym here) (none_final_overrides_none classes m (get_or chain last 0) l (numbers last 0 (omega (arith, next, within))) is (sym kept))
    by_place (inr (inl below)) = unmarked_overrides_none classes row m (get_or chain k 0) tells (unmarked k from below)
    by_place (inr (inr above)) = none k (omega (arith, next, above)) less

behind_none : (classes : List Loaded) (m : Method) (found : List Loaded) (behind : List ℕ) → All (OverridesNoFinal classes m) behind → overrides_final_above m found (classes_at classes behind) ≡ false
behind_none classes m found [] none = refl
behind_none classes m found (n ∷ behind) none =
    by_class (slice_get classes n) refl (λ f. behind_none classes m f behind (λ k d less. none (suc k) d (omega (arith, less))))
  where
    by_class : (o : Option Loaded) → slice_get classes n ≡ o → ((f : List Loaded) → overrides_final_above m f (classes_at classes behind) ≡ false)
        → overrides_final_above m found (cons_option o (classes_at classes behind)) ≡ false
    by_class None at again = again found
    by_class (Some s) at again =
        ap (λ b. b || overrides_final_above m (with_overridden found (alike_in s m)) (classes_at classes behind)) (none 0 0 (omega arith) s found at)
        ∙ again (with_overridden found (alike_in s m))

above_front : (m : Method) (found front behind : List Loaded) → ((f : List Loaded) → overrides_final_above m f behind ≡ false)
    → overrides_final_above m found (front ++ behind) ≡ overrides_final_above m found front
above_front m found [] behind none = none found
above_front m found (s ∷ front) behind none =
    ap (λ b. overrides_final found (alike_in s m) || b) (above_front m (with_overridden found (alike_in s m)) front behind none)

module _ (classes : List Loaded) (m : Method) (of : ℕ) (chain front : List ℕ) (upto : IsUpToFinal classes m chain front) where
  behind : All (OverridesNoFinal classes m) (drop upto.many chain)
  behind k d less =
      let within : upto.many + k < length chain = omega (arith, length-drop upto.many chain, less) in
      subst (OverridesNoFinal classes m) (sym (get_or-drop upto.many chain k d ∙ get_or_default chain (upto.many + k) d 0 within)) (upto.none_behind (upto.many + k) (omega arith) within)

  front_same : (l : Loaded) → overrides_final_above m (l ∷ []) (classes_at classes chain) ≡ overrides_final_above m (l ∷ []) (classes_at classes front)
  front_same l =
      ap (λ c. overrides_final_above m (l ∷ []) (classes_at classes c)) (sym (take-append-drop upto.many chain))
      ∙ (ap (overrides_final_above m (l ∷ [])) (filter_map-append (slice_get classes) (take upto.many chain) (drop upto.many chain))
      ∙ (above_front m (l ∷ []) (classes_at classes (take upto.many chain)) (classes_at classes (drop upto.many chain)) (λ f. behind_none classes m f (drop upto.many chain) behind)
      ∙ ap (λ c. overrides_final_above m (l ∷ []) (classes_at classes c)) (sym upto.is)))

  pub front_answers : (b : Bool) → b ≡ passes (λ l. overrides_final_above m (l ∷ []) (classes_at classes front)) (slice_get classes of)
      → b ≡ passes (λ l. overrides_final_above m (l ∷ []) (classes_at classes chain)) (slice_get classes of)
  front_answers b h = h ∙ by_class (slice_get classes of)
    where
      by_class : (o : Option Loaded) → passes (λ l. overrides_final_above m (l ∷ []) (classes_at classes front)) o ≡ passes (λ l. overrides_final_above m (l ∷ []) (classes_at classes chain)) o
      by_class None = refl
      by_class (Some l) = sym (front_same l)

  pub none_in_front : true ≡ nat_eq (length front) 0 → false ≡ passes (λ l. overrides_final_above m (l ∷ []) (classes_at classes chain)) (slice_get classes of)
  none_in_front h = front_answers false (none_of (slice_get classes of) front (eqb-true (length front) 0 (sym h)))
    where
      none_of : (o : Option Loaded) (c : List ℕ) → length c ≡ 0 → false ≡ passes (λ l. overrides_final_above m (l ∷ []) (classes_at classes c)) o
      none_of None c e = refl
      none_of (Some l) [] e = refl
      none_of (Some l) (n ∷ c) e = absurd (omega (arith, e))
