-- What is enumerated before a class: the superinterfaces that its own lead to, each once and behind those above it.
use Rattle.std.proofs.Common.{◌≡◌, ℕ, zero, suc, ◌+◌, ◌≤◌, Bool, true, false, cond, ◌||◌, List, [], ◌∷◌, ◌++◌, length, Option, Some, None, refl, sym, ap, ◌∙◌, subst, inl, inr, arith}
use Rattle.std.specs.Prelude.{◌⊎◌, IsTrue, IsFalse, filter, if◌then◌else◌}
use Rattle.std.specs.List.{Contains, cons_option, filter_map, fold, list_any}
use Rattle.std.specs.Str.{bytes_eq}
use Rattle.std.proofs.lemmas.List.{append_assoc, append-nil}
use Rattle.std.proofs.lemmas.List.Elements.{Contains-append_left, Contains-append_right, Contains-append_cases, filter-append}
use Rattle.jv_class.specs.Class.{Class}
use Rattle.jv_meaning_world.specs.World.{Loaded, World, class_named}
use Rattle.jv_meaning_world.specs.Above.{above, is_circular, class_if_named, superclass_names}
use Rattle.jv_meaning_world.specs.Verdicts.{is_interface}
use Rattle.jv_meaning_world.specs.LookUps.{is_among}
use Rattle.jv_meaning_world.specs.Laws.Above.{AboveByWays, AboveIsTransitive}
use Rattle.jv_meaning_typing.specs.InitializationOrder.{interfaces_in, given_within, enumerated, declares_default, init_order}
use Rattle.jv_meaning_typing.specs.LinkingLaws.{IsInterfaceWay, IsOwnSuperinterface, EachBehind, IsNext, behind_superclass, IsInitOrder, InitOrderIsByRule}
use Rattle.jv_meaning_world.proofs.Up.{none, single, first, later}
use Rattle.jv_meaning_typing.proofs.Found.{split, in_filter, in_found, same_text}
use Rattle.jv_meaning_typing.proofs.Searched.{AllOf, of_joined, of_fold, of_given, interfaces_above}
use Rattle.jv_meaning_world.proofs.Up.{found_is_named}
use Rattle.jv_meaning_typing.proofs.Chain.{in_any, IsNamedIn, IsFresh, NoTwo, few}

clash : {b : Bool} → IsTrue b → IsFalse b → ⊥
clash h k = unlike (sym h ∙ k)
  where
    unlike : true ≡ false → ⊥
    unlike e = cc

-- ---- lists

module _ {X : Type 0} (test : X → Bool) where
  into_filter : (xs : List X) (y : X) → Contains xs y → IsTrue (test y) → Contains (filter test xs) y
  into_filter [] y h t = absurd (none y h)
  into_filter (x ∷ xs) y h t = by_part (split x xs y h) (λ k. into_filter xs y k t)
    where
      put : (b : Bool) → IsTrue b → Contains (cond b (x ∷ filter test xs) (filter test xs)) x
      put true t = first x (filter test xs)
      put false t = absurd cc

      behind : (b : Bool) → Contains (filter test xs) y → Contains (cond b (x ∷ filter test xs) (filter test xs)) y
      behind true k = later x (filter test xs) y k
      behind false k = k

      by_part : (x ≡ y) ⊎ Contains xs y → (Contains xs y → Contains (filter test xs) y) → Contains (filter test (x ∷ xs)) y
      by_part (inl e) again = subst (Contains (filter test (x ∷ xs))) e (put (test x) (subst (λ z. IsTrue (test z)) (sym e) t))
      by_part (inr k) again = behind (test x) (again k)

  none_passes : (xs : List X) → ((x : X) → Contains xs x → IsFalse (test x)) → IsFalse (list_any test xs)
  none_passes [] each = refl
  none_passes (x ∷ xs) each = ap (λ b. b || list_any test xs) (each x (first x xs)) ∙ none_passes xs (λ y h. each y (later x xs y h))

  each_fails : (xs : List X) → IsFalse (list_any test xs) → (x : X) → Contains xs x → IsFalse (test x)
  each_fails xs h x k = by_test (test x) refl
    where
      by_test : (b : Bool) → test x ≡ b → IsFalse (test x)
      by_test true e = absurd (clash (in_any test xs x k e) h)
      by_test false e = e

  pub one_passes : (xs : List X) → IsTrue (list_any test xs) → (x : X) × Contains xs x × IsTrue (test x)
  one_passes [] t = absurd cc
  one_passes (x ∷ xs) t = by_test (test x) refl t (λ k. one_passes xs k)
    where
      by_test : (b : Bool) → test x ≡ b → IsTrue (b || list_any test xs) → (IsTrue (list_any test xs) → (y : X) × Contains xs y × IsTrue (test y)) → (y : X) × Contains (x ∷ xs) y × IsTrue (test y)
      by_test true e t again = (x, first x xs, e)
      by_test false e t again = let found = again t in (found.0, later x xs found.0 found.1, found.2)

module _ (P : List Loaded → Loaded → Type 0) where
  one_more : (before ls : List Loaded) (l : Loaded) → EachBehind P before ls → P (before ++ ls) l → EachBehind P before (ls ++ l ∷ [])
  one_more before [] l each here = (subst (λ b. P b l) (append-nil before) here, tt)
  one_more before (x ∷ ls) l each here = (each.0, one_more (before ++ x ∷ []) ls l each.1 (subst (λ b. P b l) (sym (append_assoc before (x ∷ []) ls)) here))

  those_that_pass : (Q : List Loaded → Loaded → Type 0) (test : Loaded → Bool) → ((before : List Loaded) (l : Loaded) → P before l → IsTrue (test l) → Q (filter test before) l)
      → (before ls : List Loaded) → EachBehind P before ls → EachBehind Q (filter test before) (filter test ls)
  those_that_pass Q test gives before [] each = tt
  those_that_pass Q test gives before (l ∷ ls) each = by_test (test l) refl (those_that_pass Q test gives (before ++ l ∷ []) ls each.1)
    where
      joined : (b : Bool) → test l ≡ b → filter test (before ++ l ∷ []) ≡ filter test before ++ cond b (l ∷ []) []
      joined b e = filter-append test before (l ∷ []) ∙ ap (λ b. filter test before ++ cond b (l ∷ []) []) e

      by_test : (b : Bool) → test l ≡ b → EachBehind Q (filter test (before ++ l ∷ [])) (filter test ls) → EachBehind Q (filter test before) (cond b (l ∷ filter test ls) (filter test ls))
      by_test true e again = (gives before l each.0 e, subst (λ b. EachBehind Q b (filter test ls)) (joined true e) again)
      by_test false e again = subst (λ b. EachBehind Q b (filter test ls)) (joined false e ∙ append-nil (filter test before)) again

-- ---- what was given so far

-- it is new, and all above it was given
abbrev Follows : World → List Loaded → Loaded → Type 0
Follows world before l = IsFalse (is_among before l) × ((s : Loaded) → IsOwnSuperinterface world l s → Contains before s)

record Right (world : World) (given : List Loaded) : Type 0 where
  named : AllOf (IsNamedIn world) given
  closed : (c s : Loaded) → Contains given c → IsOwnSuperinterface world c s → Contains given s
  each : EachBehind (Follows world) [] given

nothing_given : (world : World) → Right world []
nothing_given world = record { named = λ c h. absurd (none c h); closed = λ c s h way. absurd (none c h); each = tt }

-- a class's superinterfaces, where the direct ones were given
above_given : (world : World) (given : List Loaded) (l : Loaded) → Right world given → ((s : Loaded) → Contains (interfaces_in world l.class) s → Contains given s)
    → (s : Loaded) → IsOwnSuperinterface world l s → Contains given s
above_given world given l right direct s way = by_way way.0 way.1
  where
    by_way : (between : List Loaded) → IsInterfaceWay world l.class between s → Contains given s
    by_way [] h = direct s h
    by_way (by ∷ more) h = right.closed by s (direct by h.0) (more, h.1)

one_given : (world : World) (given : List Loaded) (l : Loaded) → Right world given → IsNamedIn world l → IsFalse (is_among given l)
    → ((s : Loaded) → Contains (interfaces_in world l.class) s → Contains given s) → Right world (given ++ l ∷ [])
one_given world given l right named new direct = record {
  named = of_joined (IsNamedIn world) given l right.named named;
  closed = λ c s h way. Contains-append_left given (l ∷ []) s (by_part c s way (Contains-append_cases given (l ∷ []) c h));
  each = one_more (Follows world) [] given l right.each (new, above_given world given l right direct);
}
  where
    by_part : (c s : Loaded) → IsOwnSuperinterface world c s → Contains given c ⊎ Contains (l ∷ []) c → Contains given s
    by_part c s way (inl k) = right.closed c s k way
    by_part c s way (inr k) = above_given world given l right direct s (subst (λ x. IsOwnSuperinterface world x s) (sym (single l c k)) way)

-- ---- ways by superinterfaces

further : (world : World) (class : Class) (between : List Loaded) (by s : Loaded) → IsInterfaceWay world class between by →
    Contains (interfaces_in world by.class) s → IsInterfaceWay world class (between ++ by ∷ []) s
further world class [] by s h k = (h, k)
further world class (x ∷ more) by s h k = (h.0, further world x.class more by s h.1 k)

interface_is_named : (world : World) (class : Class) → AllOf (IsNamedIn world) (interfaces_in world class)
interface_is_named world class s h =
    let found = in_found (class_named world) class.interfaces s h in
    ap (class_named world) (found_is_named world found.0 s found.2) ∙ found.2

-- no more than so many direct steps lead up from a class
abbrev Shallow : World → ℕ → Loaded → Type 0
Shallow world zero l = ⊥
Shallow world (suc k) l = (s : Loaded) → Contains (interfaces_in world l.class) s → Shallow world k s

abbrev NoCircle : World → Loaded → Type 0
NoCircle world l = IsFalse (is_circular world l.class)

abbrev Straight : World → Loaded → Type 0
Straight world l = NoCircle world l × ((c : Loaded) → Contains (above world l.class) c → NoCircle world c)

module _ (ways : AboveByWays) (above_above : AboveIsTransitive) (world : World) where
  above_one : (class : Class) (s : Loaded) → Contains (interfaces_in world class) s → Contains (above world class) s
  above_one class s h = interfaces_above ways above_above world class s h

  straight_above : (l s : Loaded) → ((c : Loaded) → Contains (above world l.class) c → NoCircle world c) → Contains (interfaces_in world l.class) s → Straight world s
  straight_above l s straight h = (straight s (above_one l.class s h), λ c k. straight c (above_above world l.class s c (above_one l.class s h) k))

  other_name : (c s : Loaded) → NoCircle world c → Contains (above world c.class) s → bytes_eq s.class.name c.class.name ≡ false
  other_name c s straight h = each_fails (λ x. bytes_eq x.class.name c.class.name) (above world c.class) straight s h

  fresh_above : (s : Loaded) (ls : List Loaded) → ((c : Loaded) → Contains ls c → NoCircle world c × Contains (above world c.class) s) → IsFresh s.class.name ls
  fresh_above s [] each = tt
  fresh_above s (c ∷ ls) each = (other_name c s (each c (first c ls)).0 (each c (first c ls)).1, fresh_above s ls (λ x h. each x (later c ls x h)))

  -- on a way up no class is met twice
  shallow : (k : ℕ) (met : List Loaded) (l : Loaded) → NoTwo (l ∷ met) → AllOf (IsNamedIn world) (l ∷ met) → Straight world l →
      ((c : Loaded) → Contains met c → NoCircle world c × Contains (above world c.class) l)
      → length world ≤ k + length met → Shallow world k l
  shallow zero met l once named straight below bound = absurd (omega (arith, few world (l ∷ met) once named, bound))
  shallow (suc k) met l once named straight below bound = λ s h.
      shallow k (l ∷ met) s (fresh_above s (l ∷ met) (λ c j. lower s h c (split l met c j)), once)
      (λ c j. named_too s h c (split s (l ∷ met) c j)) (straight_above l s straight.1 h) (λ c j. lower s h c (split l met c j)) (omega (arith, bound))
    where
      lower : (s : Loaded) → Contains (interfaces_in world l.class) s → (c : Loaded) → (l ≡ c) ⊎ Contains met c → NoCircle world c × Contains (above world c.class) s
      lower s h c (inl e) = subst (λ x. NoCircle world x × Contains (above world x.class) s) e (straight.0, above_one l.class s h)
      lower s h c (inr j) = ((below c j).0, above_above world c.class l s (below c j).1 (above_one l.class s h))

      named_too : (s : Loaded) → Contains (interfaces_in world l.class) s → (c : Loaded) → (s ≡ c) ⊎ Contains (l ∷ met) c → IsNamedIn world c
      named_too s h c (inl e) = subst (IsNamedIn world) e (interface_is_named world l.class s h)
      named_too s h c (inr j) = named c j

  -- ---- one class, and all of a list

  abbrev Visited : List Loaded → List Loaded → Type 0
  Visited given result = Right world result × ((c : Loaded) → Contains given c → Contains result c)

  abbrev Visit : ℕ → Type 0
  Visit k = (given : List Loaded) (l : Loaded) → Right world given → IsNamedIn world l → Shallow world k l → Straight world l
      → Visited given (given_within world k given l) × Contains (given_within world k given l) l

  visit_all : (k : ℕ) → Visit k → (ls given : List Loaded) → Right world given → ((l : Loaded) → Contains ls l → IsNamedIn world l × Shallow world k l × Straight world l)
      → Visited given (fold (given_within world k) given ls) × AllOf (Contains (fold (given_within world k) given ls)) ls
  visit_all k visit [] given right each = ((right, λ c h. h), λ l h. absurd (none l h))
  visit_all k visit (l ∷ ls) given right each =
      let here = each l (first l ls) in
      let one = visit given l right here.0 here.1 here.2 in
      let rest = visit_all k visit ls (given_within world k given l) one.0.0 (λ c h. each c (later l ls c h)) in
      ((rest.0.0, λ c h. rest.0.1 c (one.0.1 c h)), λ c h. by_part c (rest.0.1 l one.1) (rest.1 c) (split l ls c h))
    where
      by_part : (c : Loaded) → Contains (fold (given_within world k) given (l ∷ ls)) l → (Contains ls c → Contains (fold (given_within world k) given (l ∷ ls)) c)
          → (l ≡ c) ⊎ Contains ls c → Contains (fold (given_within world k) given (l ∷ ls)) c
      by_part c one rest (inl e) = subst (Contains (fold (given_within world k) given (l ∷ ls))) e one
      by_part c one rest (inr j) = rest j

  visit : (k : ℕ) → Visit k
  visit zero given l right named low straight = absurd low
  visit (suc k) given l right named low straight = by_test (is_among given l) refl (visit_all k (visit k) (interfaces_in world l.class) given right each)
    where
      all : List Loaded
      all = fold (given_within world k) given (interfaces_in world l.class)

      each : (s : Loaded) → Contains (interfaces_in world l.class) s → IsNamedIn world s × Shallow world k s × Straight world s
      each s h = (interface_is_named world l.class s h, low s h, straight_above l s straight.1 h)

      some_same : (c : Loaded) → Some c ≡ Some l → c ≡ l
      some_same c e = cc

      there : IsTrue (is_among given l) → Contains given l
      there t =
          let found = one_passes (λ b. bytes_eq b.class.name l.class.name) given t in
          subst (Contains given) (some_same found.0 (sym (right.named found.0 found.1) ∙ ap (class_named world) (same_text found.0.class.name l.class.name found.2) ∙ named)) found.1

      from : AllOf (λ c. Contains given c ⊎ Contains (above world l.class) c) all
      from =
          of_fold (λ c. Contains given c ⊎ Contains (above world l.class) c) (given_within world k)
          (of_given world (λ c. Contains given c ⊎ Contains (above world l.class) c) up k)
          given (interfaces_in world l.class) (λ c h. inl h) (λ s h. inr (above_one l.class s h))
        where
          up : (by s : Loaded) → Contains given by ⊎ Contains (above world l.class) by → Contains (interfaces_in world by.class) s → Contains given s ⊎ Contains (above world l.class) s
          up by s (inl j) h = inl (right.closed by s j ([], h))
          up by s (inr j) h = inr (above_above world l.class by s j (above_one by.class s h))

      new : IsFalse (is_among given l) → IsFalse (is_among all l)
      new f = none_passes (λ b. bytes_eq b.class.name l.class.name) all (λ c h. by_part c (from c h))
        where
          by_part : (c : Loaded) → Contains given c ⊎ Contains (above world l.class) c → IsFalse (bytes_eq c.class.name l.class.name)
          by_part c (inl j) = each_fails (λ b. bytes_eq b.class.name l.class.name) given f c j
          by_part c (inr j) = other_name l c straight.0 j

      by_test : (b : Bool) → is_among given l ≡ b → Visited given all × AllOf (Contains all) (interfaces_in world l.class)
          → Visited given (if b then given else all ++ l ∷ []) × Contains (if b then given else all ++ l ∷ []) l
      by_test true e done = ((right, λ c h. h), there e)
      by_test false e done =
          ((one_given world all l done.0.0 named (new e) done.1, λ c h. Contains-append_left all (l ∷ []) c (done.0.1 c h)), Contains-append_right all (l ∷ []) l (first l []))

  -- ---- a class's own superinterfaces

  module _ (l : Loaded) (straight : (c : Loaded) → Contains (above world l.class) c → NoCircle world c) where
    done : Visited [] (enumerated world l.class) × AllOf (Contains (enumerated world l.class)) (interfaces_in world l.class)
    done = visit_all (length world) (visit (length world)) (interfaces_in world l.class) [] (nothing_given world) each
      where
        each : (s : Loaded) → Contains (interfaces_in world l.class) s → IsNamedIn world s × Shallow world (length world) s × Straight world s
        each s h = (
          interface_is_named world l.class s h,
          shallow (length world) [] s (tt, tt) (λ c j. subst (IsNamedIn world) (single s c j) (interface_is_named world l.class s h))
              (straight_above l s straight h) (λ c j. absurd (none c j)) (omega arith),
          straight_above l s straight h,
        )

    sound : AllOf (IsOwnSuperinterface world l) (enumerated world l.class)
    sound =
        of_fold (IsOwnSuperinterface world l) (given_within world (length world))
        (of_given world (IsOwnSuperinterface world l) (λ by s way h. (way.0 ++ by ∷ [], further world l.class way.0 by s way.1 h)) (length world))
        [] (interfaces_in world l.class) (λ c h. absurd (none c h)) (λ s h. ([], h))

    complete : (s : Loaded) → IsOwnSuperinterface world l s → Contains (enumerated world l.class) s
    complete s way = above_given world (enumerated world l.class) l done.0.0 done.1 s way

    abbrev with_default : List Loaded
    with_default = filter declares_default (enumerated world l.class)

    next : (before : List Loaded) (c : Loaded) → Follows world before c → IsTrue (declares_default c) → IsNext world (filter declares_default before) c
    next before c follows t = record {
      once = none_passes (λ b. bytes_eq b.class.name c.class.name) (filter declares_default before)
          (λ x h. each_fails (λ b. bytes_eq b.class.name c.class.name) before follows.0 x (in_filter declares_default before x h).0);
      behind = λ s h. into_filter declares_default before s (follows.1 s h.0) h.1;
    }

    superclass_first : (o : Option (List ℕ)) (more : List Loaded) → filter_map (class_named world) (superclass_names o) ++ more ≡ behind_superclass (class_if_named world o) more
    superclass_first None more = refl
    superclass_first (Some name) more = by_class (class_named world name)
      where
        by_class : (o : Option Loaded) → cons_option o [] ++ more ≡ behind_superclass o more
        by_class None = refl
        by_class (Some s) = refl

    is_right : IsFalse (is_interface l) → IsInitOrder world l (init_order world l)
    is_right class = record {
      interfaces = with_default;
      parts =
          ap (λ b. if b then [] else filter_map (class_named world) (superclass_names l.class.super_class) ++ with_default) class ∙ superclass_first l.class.super_class with_default;
      those = λ s. (
        λ h. let parts = in_filter declares_default (enumerated world l.class) s h in (sound s parts.0, parts.1),
        λ h. into_filter declares_default (enumerated world l.class) s (complete s h.0) h.1,
      );
      one_by_one = those_that_pass (Follows world) (IsNext world) declares_default next [] (enumerated world l.class) done.0.0.each;
    }

pub init_order_is_by_rule : AboveByWays → AboveIsTransitive → InitOrderIsByRule
init_order_is_by_rule ways above_above world l class straight = is_right ways above_above world l straight class
