-- The methods that are found to override are those that override by the rule of JVMS 5.4.5.
use Rattle.std.proofs.Common.{◌≡◌, Bool, true, false, ◌||◌, List, [], ◌∷◌, ◌++◌, Option, Some, None, refl, sym, ap, ◌∙◌, subst, inl, inr}
use Rattle.std.specs.Prelude.{◌⊎◌, IsTrue, IsFalse, if◌then◌else◌}
use Rattle.std.specs.List.{Contains, list_any}
use Rattle.std.proofs.lemmas.List.{append_assoc, append-nil}
use Rattle.std.proofs.lemmas.List.Elements.{Contains-append_cases}
use Rattle.std.proofs.lemmas.List.Folds.{list_any-append}
use Rattle.jv_class.specs.Class.{Method}
use Rattle.jv_meaning_world.specs.World.{Loaded}
use Rattle.jv_meaning_world.specs.Overriding.{Declared, overrides_itself, alike_in, with_declared, overriding}
use Rattle.jv_meaning_typing.specs.OverridingRule.{Overrides, by_itself, by_third, IsNextFound, OverridingIsByRule}
use Rattle.jv_meaning_world.proofs.Up.{single}
use Rattle.jv_meaning_typing.proofs.Unchanged.{any_of_joined, stays}
use Rattle.jv_meaning_typing.proofs.Enumerated.{one_passes}

-- ---- a walk in two parts

pub in_parts : (found : List Declared) (m : Method) (higher lower : List Loaded) → overriding found m (higher ++ lower) ≡ overriding (overriding found m higher) m lower
in_parts found m [] lower = refl
in_parts found m (l ∷ higher) lower = in_parts (with_declared found (alike_in l m)) m higher lower

-- whatever test one of the first list passes, one of the second passes
abbrev AreAmong : List Declared → List Declared → Type 0
AreAmong found more = (test : Declared → Bool) → IsTrue (list_any test found) → IsTrue (list_any test more)

any_of_last : (test : Declared → Bool) (ds : List Declared) (d : Declared) → IsTrue (test d) → IsTrue (list_any test (ds ++ d ∷ []))
any_of_last test ds d h = list_any-append test ds (d ∷ []) ∙ ap (λ b. list_any test ds || (b || false)) h ∙ or_true (list_any test ds)
  where
    or_true : (b : Bool) → (b || true) ≡ true
    or_true true = refl
    or_true false = refl

-- more that was found leads to more
stay_among : (m : Method) (ls : List Loaded) (found more : List Declared) → AreAmong found more → AreAmong (overriding found m ls) (overriding more m ls)
stay_among m [] found more among = among
stay_among m (l ∷ ls) found more among = stay_among m ls (with_declared found (alike_in l m)) (with_declared more (alike_in l m)) (by_declared (alike_in l m))
  where
    both : (d : Declared) → AreAmong (found ++ d ∷ []) (more ++ d ∷ [])
    both d test h = by_part (list_any test found) refl (sym (list_any-append test found (d ∷ [])) ∙ h)
      where
        last : (b : Bool) → IsTrue (b || false) → IsTrue b
        last true h = refl
        last false h = h

        by_part : (b : Bool) → list_any test found ≡ b → IsTrue (b || (test d || false)) → IsTrue (list_any test (more ++ d ∷ []))
        by_part true e h = any_of_joined test more (d ∷ []) (among test e)
        by_part false e h = any_of_last test more d (last (test d) h)

    by_tests : (d : Declared) (a b : Bool) → (IsTrue a → IsTrue b) → AreAmong (if a then found ++ d ∷ [] else found) (if b then more ++ d ∷ [] else more)
    by_tests d true b gives = subst (λ b. AreAmong (found ++ d ∷ []) (if b then more ++ d ∷ [] else more)) (sym (gives refl)) (both d)
    by_tests d false true gives = λ test h. any_of_joined test more (d ∷ []) (among test h)
    by_tests d false false gives = among

    by_declared : (o : Option Declared) → AreAmong (with_declared found o) (with_declared more o)
    by_declared None = among
    by_declared (Some d) = by_tests d (list_any (overrides_itself d) found) (list_any (overrides_itself d) more) (among (overrides_itself d))

-- ---- what overrides by the rule is found

found_by_rule : (m : Method) (e : Declared) (between : List Loaded) (d : Declared) → Overrides m e between d → IsTrue (list_any (overrides_itself d) (overriding (e ∷ []) m between))
found_by_rule m e between d (by_itself _ _ _ h) = stays (overrides_itself d) (e ∷ []) m between (ap (λ b. b || false) h)
found_by_rule m e _ d (by_third _ third _ higher lower l alike first last) =
    subst (λ found. IsTrue (list_any (overrides_itself d) found)) (sym (in_parts (e ∷ []) m higher (l ∷ lower)))
    (subst (λ found. IsTrue (list_any (overrides_itself d) (overriding found m lower))) (sym (joined (found_by_rule m e higher third first)))
    (stay_among m lower (third ∷ []) (overriding (e ∷ []) m higher ++ third ∷ []) is_last (overrides_itself d) (found_by_rule m third lower d last)))
  where
    joined : IsTrue (list_any (overrides_itself third) (overriding (e ∷ []) m higher)) → with_declared (overriding (e ∷ []) m higher) (alike_in l m) ≡ overriding (e ∷ []) m higher ++ third ∷ []
    joined h = ap (with_declared (overriding (e ∷ []) m higher)) alike ∙ ap (λ b. if b then overriding (e ∷ []) m higher ++ third ∷ [] else overriding (e ∷ []) m higher) h

    is_last : AreAmong (third ∷ []) (overriding (e ∷ []) m higher ++ third ∷ [])
    is_last test h = any_of_last test (overriding (e ∷ []) m higher) third (alone (test third) h)
      where
        alone : (b : Bool) → IsTrue (b || false) → IsTrue b
        alone true h = refl
        alone false h = h

-- ---- what is found overrides by the rule

-- one that was found after these classes: the first, or a method of one of them that overrides it
abbrev IsFound : Method → Declared → List Loaded → Declared → Type 0
IsFound m e passed o =
    (o ≡ e) ⊎ ((higher lower : List Loaded) × (l : Loaded) × (passed ≡ higher ++ l ∷ lower) × (alike_in l m ≡ Some o) × Overrides m e higher o)

abbrev AllFound : Method → Declared → List Loaded → List Declared → Type 0
AllFound m e passed found = (o : Declared) → Contains found o → IsFound m e passed o

by_one : (m : Method) (e : Declared) (passed : List Loaded) (o d : Declared) → IsFound m e passed o → IsTrue (overrides_itself d o) → Overrides m e passed d
by_one m e passed o d (inl same) h = by_itself e d passed (subst (λ x. IsTrue (overrides_itself d x)) same h)
by_one m e passed o d (inr there) h =
    subst (λ ls. Overrides m e ls d) (sym there.3) (by_third e o d there.0 there.1 there.2 there.4 there.5 (by_itself o d there.1 h))

by_any : (m : Method) (e : Declared) (passed : List Loaded) (found : List Declared) (d : Declared) → AllFound m e passed found → IsTrue (list_any (overrides_itself d) found) → Overrides m e passed d
by_any m e passed found d all h = let one = one_passes (overrides_itself d) found h in by_one m e passed one.0 d (all one.0 one.1) one.2

one_class_more : (m : Method) (e : Declared) (passed : List Loaded) (found : List Declared) (l : Loaded) → AllFound m e passed found →
    AllFound m e (passed ++ l ∷ []) (with_declared found (alike_in l m))
one_class_more m e passed found l all = by_declared (alike_in l m) refl
  where
    longer : (o : Declared) → IsFound m e passed o → IsFound m e (passed ++ l ∷ []) o
    longer o (inl same) = inl same
    longer o (inr there) = inr (there.0, there.1 ++ l ∷ [], there.2, ap (λ ls. ls ++ l ∷ []) there.3 ∙ append_assoc there.0 (there.2 ∷ there.1) (l ∷ []), there.4, there.5)

    by_part : (d : Declared) → alike_in l m ≡ Some d → Overrides m e passed d → (o : Declared) → Contains found o ⊎ Contains (d ∷ []) o → IsFound m e (passed ++ l ∷ []) o
    by_part d a over o (inl k) = longer o (all o k)
    by_part d a over o (inr k) = inr (passed, [], l, refl, subst (λ x. alike_in l m ≡ Some x) (single d o k) a, subst (Overrides m e passed) (single d o k) over)

    by_test : (d : Declared) → alike_in l m ≡ Some d → (b : Bool) → list_any (overrides_itself d) found ≡ b → AllFound m e (passed ++ l ∷ []) (if b then found ++ d ∷ [] else found)
    by_test d a true t = λ o h. by_part d a (by_any m e passed found d all t) o (Contains-append_cases found (d ∷ []) o h)
    by_test d a false t = λ o h. longer o (all o h)

    by_declared : (o : Option Declared) → alike_in l m ≡ o → AllFound m e (passed ++ l ∷ []) (with_declared found o)
    by_declared None a = λ o h. longer o (all o h)
    by_declared (Some d) a = by_test d a (list_any (overrides_itself d) found) refl

all_found : (m : Method) (e : Declared) (ls passed : List Loaded) (found : List Declared) → AllFound m e passed found → AllFound m e (passed ++ ls) (overriding found m ls)
all_found m e [] passed found all = λ o h. same o (all o h)
  where
    same : (o : Declared) → IsFound m e passed o → IsFound m e (passed ++ []) o
    same o is = subst (λ ls. IsFound m e ls o) (sym (append-nil passed)) is
all_found m e (l ∷ ls) passed found all =
    subst (λ p. AllFound m e p (overriding (with_declared found (alike_in l m)) m ls)) (append_assoc passed (l ∷ []) ls)
    (all_found m e ls (passed ++ l ∷ []) (with_declared found (alike_in l m)) (one_class_more m e passed found l all))

rule_of_found : (m : Method) (e : Declared) (between : List Loaded) (d : Declared) → IsTrue (list_any (overrides_itself d) (overriding (e ∷ []) m between)) → Overrides m e between d
rule_of_found m e between d h = by_any m e between (overriding (e ∷ []) m between) d (all_found m e between [] (e ∷ []) (λ o k. inl (sym (single e o k)))) h

-- ---- the law

next_found : (e : Declared) (m : Method) (between : List Loaded) (l : Loaded) → IsNextFound e m between l
next_found e m between l = record {
  none = λ a. in_parts (e ∷ []) m between (l ∷ []) ∙ ap (with_declared (overriding (e ∷ []) m between)) a;
  joins = λ d a over. in_parts (e ∷ []) m between (l ∷ []) ∙ ap (with_declared (overriding (e ∷ []) m between)) a ∙
      ap (λ b. if b then (overriding (e ∷ []) m between) ++ d ∷ [] else (overriding (e ∷ []) m between)) (found_by_rule m e between d over);
  stays_out = λ d a out. in_parts (e ∷ []) m between (l ∷ []) ∙ ap (with_declared (overriding (e ∷ []) m between)) a ∙
      ap (λ b. if b then (overriding (e ∷ []) m between) ++ d ∷ [] else (overriding (e ∷ []) m between))
      (by_test (list_any (overrides_itself d) (overriding (e ∷ []) m between)) (λ h. absurd (out (rule_of_found m e between d h))));
}
  where
    by_test : (b : Bool) → (IsTrue b → IsFalse b) → b ≡ false
    by_test true h = h refl
    by_test false h = refl

pub overriding_is_by_rule : OverridingIsByRule
overriding_is_by_rule = record { itself = λ e m. refl; others = next_found }
