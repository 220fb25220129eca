-- What is met on the way up from a class tells the first method that overrides the called one.
use Rattle.std.proofs.Common.{◌≡◌, ℕ, zero, suc, ◌≤◌, Bool, true, false, not, ◌&&◌, ◌||◌, List, [], ◌∷◌, ◌++◌, length, map, filter, Option, Some, None, refl, sym, ap, ◌∙◌, subst, arith}
use Rattle.std.specs.Prelude.{⊤, IsFalse, reverse, if◌then◌else◌}
use Rattle.std.specs.List.{list_any}
use Rattle.std.specs.Str.{bytes_eq}
use Rattle.std.specs.Cmp.Lexicographic.{nat_list_eq_equiv}
use Rattle.std.proofs.lemmas.List.{reverse-append}
use Rattle.std.proofs.lemmas.List.Folds.{list_any-append}
use Rattle.jv_class.specs.Class.{Method, method_named}
use Rattle.jv_meaning_world.specs.World.{Loaded, World}
use Rattle.jv_meaning_world.specs.Above.{is_above, is_circular, superclass_in, chain_within, superclasses}
use Rattle.jv_meaning_world.specs.Laws.Above.{AboveByWays, AboveIsTransitive}
use Rattle.jv_meaning_world.specs.Overriding.{Declared, is_instance, overrides_itself, declared_if, alike_in, with_declared, overriding}
use Rattle.jv_meaning_world.specs.LookUps.{first_found, else_option, method_if}
use Rattle.jv_loader.specs.Straight.{IsStraight}
use Rattle.jv_meaning_typing.specs.Access.{same_class}
use Rattle.jv_meaning_typing.specs.Selection.{are_alike, classes_below, has_overriding, overrides, overriding_in, first_overriding}
use Rattle.jv_meaning_typing.specs.Inside.OneWalk.{is_open}
use Rattle.jv_meaning_typing.specs.Inside.Upward.{is_private, is_near, opened_by, opened_in, OverridingUpward}
use Rattle.jv_meaning_typing.proofs.Found.{same_text, method_is_named}
use Rattle.jv_meaning_typing.proofs.Chain.{IsFresh, fresh, chain_goes_on}
use Rattle.jv_meaning_typing.proofs.Searched.{direct, superclass_is_super, superclass_is_above}
use Rattle.jv_meaning_typing.proofs.ByRule.{in_parts}
use Rattle.jv_meaning_typing.proofs.Unchanged.{stays}
use Rattle.jv_link.specs.Inside.Climbing.{met_below, met_in, meets, is_opening, hit, run_of, upward_of, met_upward}
use Rattle.jv_link.specs.Inside.Climbing.Meeting.{Nothing, Far, Sure, Opens}

-- ---- an alike method

pub record IsAlike (l : Loaded) (m : Method) (d : Declared) : Type 0 where
  pub by : d.by ≡ l
  pub instance : is_instance d.method ≡ true
  pub declared : method_named l.class m.name m.descriptor ≡ Some d.method

pub alike : (l : Loaded) (m : Method) (d : Declared) → alike_in l m ≡ Some d → IsAlike l m d
alike l m d e = by_method (method_named l.class m.name m.descriptor) refl e
  where
    made : Method → Declared
    made x = record { by = l; method = x }

    by_flags : (x : Method) (b : Bool) → is_instance x ≡ b → method_named l.class m.name m.descriptor ≡ Some x → (if b then Some (record { by = l; method = x }) else None) ≡ Some d → IsAlike l m d
    by_flags x false f h e = absurd cc
    by_flags x true f h e =
        let same : record { by = l; method = x } ≡ d = only_one e in
        record {
          by = sym (ap (λ (y : Declared). y.by) same);
          instance = subst (λ (y : Declared). is_instance y.method ≡ true) same f;
          declared = h ∙ ap (λ (y : Declared). Some y.method) same;
        }
      where
        only_one : {y : Declared} → Some y ≡ Some d → y ≡ d
        only_one e = cc

    by_method : (o : Option Method) → method_named l.class m.name m.descriptor ≡ o → declared_if l o ≡ Some d → IsAlike l m d
    by_method None h e = absurd cc
    by_method (Some x) h e = by_flags x (is_instance x) refl h e

-- ---- lists that go up

abbrev pub IsUp : World → List Loaded → Type 0
IsUp world [] = ⊤
IsUp world (c ∷ rest) = (superclasses world c.class ≡ rest) × IsFresh c.class.name rest × IsFalse (is_circular world c.class) × IsUp world rest

module _ (ways : AboveByWays) (above_above : AboveIsTransitive) (world : World) where
  no_chain : (k : ℕ) → chain_within world k None ≡ []
  no_chain zero = refl
  no_chain (suc k) = refl

  pub goes_up : (l : Loaded) → IsStraight world l → superclasses world l.class ≡ upward_of world (superclass_in world l.class)
  goes_up l straight = by_super (superclass_in world l.class) refl
    where
      by_super : (o : Option Loaded) → superclass_in world l.class ≡ o → superclasses world l.class ≡ upward_of world o
      by_super None e = ap (chain_within world (length world)) e ∙ no_chain (length world)
      by_super (Some s) e = chain_goes_on ways above_above world l s straight.above_it e

  pub super_is_straight : (l s : Loaded) → IsStraight world l → superclass_in world l.class ≡ Some s → IsStraight world s
  super_is_straight l s straight e =
      let there = direct ways above_above world l.class s (superclass_is_super world l.class s e) in
      record {
        itself = straight.above_it s there;
        above_it = λ c h. straight.above_it c (above_above world l.class s c there h);
      }

  made_up : (l : Loaded) → IsStraight world l → IsUp world (upward_of world (superclass_in world l.class)) → IsUp world (l ∷ superclasses world l.class)
  made_up l straight tail = (
    refl,
    fresh ways above_above world l (superclasses world l.class) straight.itself (superclass_is_above ways above_above world l.class),
    straight.itself,
    subst (IsUp world) (sym (goes_up l straight)) tail,
  )

  up_from : (k : ℕ) (l : Loaded) → length (superclasses world l.class) ≤ k → IsStraight world l → IsUp world (l ∷ superclasses world l.class)
  up_from zero l few straight = made_up l straight (at_end (superclass_in world l.class) (subst (λ ls. length ls ≤ 0) (goes_up l straight) few))
    where
      at_end : (o : Option Loaded) → length (upward_of world o) ≤ 0 → IsUp world (upward_of world o)
      at_end None h = tt
      at_end (Some s) h = absurd (omega (arith, h))
  up_from (suc j) l few straight =
      made_up l straight (by_super (λ s g t. up_from j s g t) (superclass_in world l.class) refl (subst (λ ls. length ls ≤ suc j) (goes_up l straight) few))
    where
      by_super : ((s : Loaded) → length (superclasses world s.class) ≤ j → IsStraight world s → IsUp world (s ∷ superclasses world s.class)) →
          (o : Option Loaded) → superclass_in world l.class ≡ o → length (upward_of world o) ≤ suc j → IsUp world (upward_of world o)
      by_super again None e h = tt
      by_super again (Some s) e h =
          let less : length (superclasses world s.class) ≤ j = omega (arith, h) in
          again s less (super_is_straight l s straight e)

  pub is_up : (l : Loaded) → IsStraight world l → IsUp world (upward_of world (Some l))
  is_up l straight = let same : length (superclasses world l.class) ≤ length (superclasses world l.class) = omega arith in up_from (length (superclasses world l.class)) l same straight

-- ---- methods of other classes

module _ (world : World) (e : Declared) where
  abbrev below : Loaded → Bool
  below l = is_above world e.by.class.name l.class

  fresh_filter : (name : List ℕ) (test : Loaded → Bool) (ls : List Loaded) → IsFresh name ls → IsFresh name (filter test ls)
  fresh_filter name test [] h = tt
  fresh_filter name test (l ∷ ls) h = by_test (test l) (fresh_filter name test ls h.1)
    where
      by_test : (b : Bool) → IsFresh name (filter test ls) → IsFresh name (if b then l ∷ filter test ls else filter test ls)
      by_test true k = (h.0, k)
      by_test false k = k

  none_same : (c : Loaded) (ls : List Loaded) → same_class e.by c ≡ false → IsFresh c.class.name ls → list_any (λ o. same_class o.by c) (overriding (e ∷ []) e.method (reverse ls)) ≡ false
  none_same c [] other h = ap (λ b. b || false) other
  none_same c (l ∷ ls) other h =
      ap (λ xs. list_any (λ o. same_class o.by c) (overriding (e ∷ []) e.method xs)) (reverse-append (l ∷ []) ls)
      ∙ (ap (list_any (λ o. same_class o.by c)) (in_parts (e ∷ []) e.method (reverse ls) (l ∷ []))
      ∙ by_declared (alike_in l e.method) refl (none_same c ls other h.1))
    where
      found : List Declared
      found = overriding (e ∷ []) e.method (reverse ls)

      joined : (d : Declared) (b : Bool) → d.by ≡ l → list_any (λ o. same_class o.by c) found ≡ false → list_any (λ o. same_class o.by c) (if b then found ++ d ∷ [] else found) ≡ false
      joined d false by none = none
      joined d true by none =
          list_any-append (λ o. same_class o.by c) found (d ∷ []) ∙ (ap (λ b. b || (same_class d.by c || false)) none
          ∙ (ap (λ (x : Loaded). same_class x c || false) by ∙ ap (λ b. b || false) (nat_list_eq_equiv.symm l.class.name c.class.name ∙ h.0)))

      by_declared : (o : Option Declared) → alike_in l e.method ≡ o → list_any (λ x. same_class x.by c) found ≡ false → list_any (λ x. same_class x.by c) (with_declared found o) ≡ false
      by_declared None f none = none
      by_declared (Some d) f none = joined d (list_any (overrides_itself d) found) (alike l e.method d f).by none

  -- ---- what opens

  opens_or_not : (private near open_d open_e : Bool) (d : Declared) →
      is_opening (if private then Nothing else if near && open_d then Opens d else if near || open_e then Sure d else Far d) ≡
      (not private && (open_d && near))
  opens_or_not true near open_d open_e d = refl
  opens_or_not false true true open_e d = refl
  opens_or_not false true false open_e d = refl
  opens_or_not false false true true d = refl
  opens_or_not false false true false d = refl
  opens_or_not false false false true d = refl
  opens_or_not false false false false d = refl

  opening_in : (l : Loaded) (b : Bool) → below l ≡ b → (o : Option Declared) → is_opening (met_in world e l o) ≡ (b && opened_by e o)
  opening_in l true f None = refl
  opening_in l false f None = refl
  opening_in l true f (Some d) = ap (λ t. is_opening (if t then met_below e d else if same_class e.by l then Sure d else Nothing)) f ∙
      opens_or_not (is_private d) (is_near e d) (is_open d) (is_open e) d
  opening_in l false f (Some d) = ap (λ t. is_opening (if t then met_below e d else if same_class e.by l then Sure d else Nothing)) f ∙ beside (same_class e.by l)
    where
      beside : (b : Bool) → is_opening (if b then Sure d else Nothing) ≡ false
      beside true = refl
      beside false = refl

  opening_same : (ls : List Loaded) → list_any is_opening (map (meets world e) ls) ≡ list_any (opened_in e e.method) (filter below ls)
  opening_same [] = refl
  opening_same (l ∷ ls) = ap (λ b. b || list_any is_opening (map (meets world e) ls)) (opening_in l (below l) refl (alike_in l e.method)) ∙ by_below (below l) (opening_same ls)
    where
      by_below : (b : Bool) → list_any is_opening (map (meets world e) ls) ≡ list_any (opened_in e e.method) (filter below ls)
          → ((b && opened_in e e.method l) || list_any is_opening (map (meets world e) ls)) ≡ list_any (opened_in e e.method) (if b then l ∷ filter below ls else filter below ls)
      by_below true again = ap (λ b. opened_in e e.method l || b) again
      by_below false again = again

  -- ---- one class

  decided : (private near open_d open_e opened : Bool) (d : Declared)
      → (if not private && ((open_e || opened) || near) then Some d else None) ≡ hit opened (if private then Nothing else if near && open_d then Opens d else if near || open_e then Sure d else Far d)
  decided true near open_d open_e opened d = refl
  decided false true true true opened d = refl
  decided false true true false true d = refl
  decided false true true false false d = refl
  decided false true false true opened d = refl
  decided false true false false true d = refl
  decided false true false false false d = refl
  decided false false true true opened d = refl
  decided false false true false true d = refl
  decided false false true false false d = refl
  decided false false false true opened d = refl
  decided false false false false true d = refl
  decided false false false false false d = refl

  module _ (upward : OverridingUpward) (able : is_instance e.method ≡ true) where
    both_alike : (c : Loaded) (d : Declared) → IsAlike c e.method d → are_alike d.method e.method ≡ true
    both_alike c d is =
        let names = method_is_named c.class e.method.name e.method.descriptor d.method is.declared in
        ap (λ b. b && is_instance e.method && bytes_eq d.method.name e.method.name && bytes_eq d.method.descriptor e.method.descriptor) is.instance
        ∙ (ap (λ b. b && bytes_eq d.method.name e.method.name && bytes_eq d.method.descriptor e.method.descriptor) able
        ∙ (ap (λ n. bytes_eq n e.method.name && bytes_eq d.method.descriptor e.method.descriptor) names.0
        ∙ (ap (λ b. b && bytes_eq d.method.descriptor e.method.descriptor) (nat_list_eq_equiv.refl e.method.name)
        ∙ (ap (λ n. bytes_eq n e.method.descriptor) names.1 ∙ nat_list_eq_equiv.refl e.method.descriptor))))

    -- what the class has overrides the called one where it joins those found above it
    has_it : (c : Loaded) (rest : List Loaded) (d : Declared) → superclasses world c.class ≡ rest → IsFresh c.class.name rest → IsAlike c e.method d →
        alike_in c e.method ≡ Some d → same_class e.by c ≡ false → (b : Bool) → below c ≡ b
        → has_overriding world c e ≡ (b && (not (is_private d) && ((is_open e || list_any (opened_in e e.method) (filter below rest)) || is_near e d)))
    has_it c rest d chain once is at other b f =
        ap (λ ls. list_any (λ o. same_class o.by c) (overriding (e ∷ []) e.method (reverse (filter below (c ∷ ls))))) chain
        ∙ (ap (λ t. list_any (λ o. same_class o.by c) (overriding (e ∷ []) e.method (reverse (if t then c ∷ filter below rest else filter below rest)))) f
        ∙ by_below b)
      where
        none : list_any (λ o. same_class o.by c) (overriding (e ∷ []) e.method (reverse (filter below rest))) ≡ false
        none = none_same c (filter below rest) other (fresh_filter c.class.name below rest once)

        found : List Declared
        found = overriding (e ∷ []) e.method (reverse (filter below rest))

        itself : same_class d.by c ≡ true
        itself = ap (λ (x : Loaded). same_class x c) is.by ∙ nat_list_eq_equiv.refl c.class.name

        joined : (t : Bool) → list_any (λ o. same_class o.by c) (if t then found ++ d ∷ [] else found) ≡ t
        joined false = none
        joined true =
            list_any-append (λ o. same_class o.by c) found (d ∷ []) ∙ (ap (λ t. t || (same_class d.by c || false)) none ∙ ap (λ t. t || false) itself)

        by_below : (t : Bool) → list_any (λ o. same_class o.by c) (overriding (e ∷ []) e.method (reverse (if t then c ∷ filter below rest else filter below rest)))
            ≡ (t && (not (is_private d) && ((is_open e || list_any (opened_in e e.method) (filter below rest)) || is_near e d)))
        by_below false = none
        by_below true =
            ap (λ xs. list_any (λ o. same_class o.by c) (overriding (e ∷ []) e.method xs)) (reverse-append (c ∷ []) (filter below rest))
            ∙ (ap (list_any (λ o. same_class o.by c)) (in_parts (e ∷ []) e.method (reverse (filter below rest)) (c ∷ []))
            ∙ (ap (λ o. list_any (λ x. same_class x.by c) (with_declared found o)) at
            ∙ (joined (list_any (overrides_itself d) found) ∙ upward e e.method (filter below rest) d)))

    hit_is : (c : Loaded) (rest : List Loaded) → superclasses world c.class ≡ rest → IsFresh c.class.name rest → IsFalse (is_circular world c.class)
        → overriding_in world e c ≡ hit (list_any is_opening (map (meets world e) rest)) (meets world e c)
    hit_is c rest chain once straight = by_alike (alike_in c e.method) refl
      where
        opened : Bool
        opened = list_any is_opening (map (meets world e) rest)

        clash : (b : Bool) → b ≡ true → IsFalse b → ⊥
        clash true g h = absurd cc
        clash false g h = absurd cc

        by_below : (d : Declared) (b : Bool) → alike_in c e.method ≡ Some d → below c ≡ b → same_class e.by c ≡ false
            → (if has_overriding world c e then Some d else None) ≡ hit opened (if b then met_below e d else if same_class e.by c then Sure d else Nothing)
        by_below d true at f other =
            ap (λ t. if t then Some d else None) (has_it c rest d chain once (alike c e.method d at) at other true f)
            ∙ (ap (λ t. if not (is_private d) && ((is_open e || t) || is_near e d) then Some d else None) (sym (opening_same rest))
            ∙ decided (is_private d) (is_near e d) (is_open d) (is_open e) opened d)
        by_below d false at f other =
            ap (λ t. if t then Some d else None) (has_it c rest d chain once (alike c e.method d at) at other false f)
            ∙ ap (λ t. hit opened (if t then Sure d else Nothing)) (sym other)

        by_same : (d : Declared) (b : Bool) → same_class e.by c ≡ b → alike_in c e.method ≡ Some d
            → (if has_overriding world c e then Some d else None) ≡ hit opened (if below c then met_below e d else if same_class e.by c then Sure d else Nothing)
        by_same d true f at =
            ap (λ t. if t then Some d else None) (stays (λ o. same_class o.by c) (e ∷ []) e.method (classes_below world c e.by) (ap (λ t. t || false) f))
            ∙ (ap (λ t. hit opened (if t then Sure d else Nothing)) (sym f)
            ∙ ap (λ t. hit opened (if t then met_below e d else if same_class e.by c then Sure d else Nothing)) (sym not_below))
          where
            not_below : below c ≡ false
            not_below = by_test (below c) refl
              where
                by_test : (t : Bool) → below c ≡ t → t ≡ false
                by_test false g = refl
                by_test true g = absurd (clash (is_circular world c.class) (ap (λ n. is_above world n c.class) (sym (same_text e.by.class.name c.class.name f)) ∙ g) straight)
        by_same d false f at = by_below d (below c) at refl f

        by_alike : (o : Option Declared) → alike_in c e.method ≡ o → method_if (λ d. overrides world d e) o ≡ hit opened (met_in world e c o)
        by_alike None f = refl
        by_alike (Some d) f =
            let is = alike c e.method d f in
            ap (λ t. if t && has_overriding world d.by e then Some d else None) (both_alike c d is)
            ∙ (ap (λ (x : Loaded). if has_overriding world x e then Some d else None) is.by
            ∙ by_same d (same_class e.by c) refl f)

    first_is : (ls : List Loaded) → IsUp world ls → first_found (overriding_in world e) ls ≡ run_of (map (meets world e) ls)
    first_is [] up = refl
    first_is (c ∷ rest) up =
        ap (λ o. else_option o (first_found (overriding_in world e) rest)) (hit_is c rest up.0 up.1 up.2)
        ∙ ap (else_option (hit (list_any is_opening (map (meets world e) rest)) (meets world e c))) (first_is rest up.3)

  -- a method that is no instance method is overridden by none
  none_overrides : is_instance e.method ≡ false → (ls : List Loaded) → first_found (overriding_in world e) ls ≡ None
  none_overrides unable [] = refl
  none_overrides unable (c ∷ rest) = ap (λ o. else_option o (first_found (overriding_in world e) rest)) (by_alike (alike_in c e.method)) ∙ none_overrides unable rest
    where
      never : (b : Bool) → (b && false) ≡ false
      never true = refl
      never false = refl

      by_alike : (o : Option Declared) → method_if (λ d. overrides world d e) o ≡ None
      by_alike None = refl
      by_alike (Some d) =
          ap (λ b. if is_instance d.method && b && bytes_eq d.method.name e.method.name && bytes_eq d.method.descriptor e.method.descriptor && has_overriding world d.by e then Some d else None) unable
          ∙ ap (λ b. if b && bytes_eq d.method.name e.method.name && bytes_eq d.method.descriptor e.method.descriptor && has_overriding world d.by e
          then Some d else None) (never (is_instance d.method))

pub run_is : OverridingUpward → AboveByWays → AboveIsTransitive → (world : World) (e : Declared) (l : Loaded) → is_instance e.method ≡ true →
    IsStraight world l → run_of (met_upward world e (Some l)) ≡ first_overriding world e l
run_is upward ways above_above world e l able straight = sym (first_is world e upward able (upward_of world (Some l)) (is_up ways above_above world l straight))

pub none_runs : (world : World) (e : Declared) (l : Loaded) → is_instance e.method ≡ false → None ≡ first_overriding world e l
none_runs world e l unable = sym (none_overrides world e unable (upward_of world (Some l)))
