-- A class has no error of loading exactly where it is loadable.
use Rattle.std.proofs.Common.{◌≡◌, ℕ, zero, suc, Bool, true, false, not, ◌&&◌, ◌||◌, List, [], ◌∷◌, length, Option, Some, None, refl, sym, ap, ◌∙◌, subst, inl, inr}
use Rattle.std.specs.Prelude.{◌⊎◌, IsTrue, if◌then◌else◌}
use Rattle.std.specs.List.{Contains, list_all}
use Rattle.std.specs.Option.{option_and_then}
use Rattle.std.specs.Str.{bytes_eq}
use Rattle.std.proofs.lemmas.Bool.{and_parts, and_from}
use Rattle.jv_class.specs.Class.{Class}
use Rattle.jv_meaning_world.specs.World.{Loaded, World, class_named}
use Rattle.jv_meaning_world.specs.Above.{super_names, supers_in, above, is_circular, superclasses}
use Rattle.jv_meaning_world.specs.declared.verdict.LoadVerdict.{LoadVerdict}
use Rattle.jv_meaning_world.specs.Verdicts.{passes, each_super, have_right_kind, can_name_supers, is_loadable_within, is_loadable, has_final_super, breaks_final, verdict_of_class}
use Rattle.jv_meaning_world.specs.declared.verdict.LoadVerdict.TheVariants.{Circular, NoSuper, WrongKind, NoAccess, FinalBroken}
use Rattle.jv_meaning_world.specs.Laws.Above.{AboveByWays, AboveIsTransitive, LoadableByAll, IsWayUp, stands_itself}
use Rattle.jv_meaning_typing.specs.ClassResolution.{loading_error, error_of_class}
use Rattle.jv_meaning_typing.specs.LinkingLaws.{LoadableResolves}
use Rattle.jv_meaning_world.proofs.Up.{none, first, later}
use Rattle.jv_meaning_typing.proofs.Found.{split, in_found, found_in}
use Rattle.jv_meaning_typing.proofs.Searched.{direct}
use Rattle.jv_meaning_typing.proofs.Finals.{found_stands}

-- ---- what the error says of the four tests

abbrev pub verdict_by : Bool → Bool → Bool → Bool → Bool → Option LoadVerdict
verdict_by circular supers kind names final =
    if circular then Some Circular else if not supers then Some NoSuper else if not kind then Some WrongKind else if not names then Some NoAccess
    else if final then Some FinalBroken else None

none_wrong : (circular supers kind names final : Bool) → option_and_then loading_error (verdict_by circular supers kind names final) ≡ None → IsTrue (not circular && supers && kind && names)
none_wrong true supers kind names final e = absurd cc
none_wrong false false kind names final e = absurd cc
none_wrong false true false names final e = absurd cc
none_wrong false true true false final e = absurd cc
none_wrong false true true true final e = refl

pub right : (circular supers kind names final : Bool) → IsTrue (not circular && supers && kind && names) → option_and_then loading_error (verdict_by circular supers kind names final) ≡ None
right true supers kind names final h = absurd cc
right false false kind names final h = absurd cc
right false true false names final h = absurd cc
right false true true false final h = absurd cc
right false true true true true h = refl
right false true true true false h = refl

-- ---- tests of supers

every : (test : List ℕ → Bool) (names : List (List ℕ)) (name : List ℕ) → IsTrue (list_all test names) → Contains names name → IsTrue (test name)
every test [] name all h = absurd (none name h)
every test (n ∷ names) name all h =
    let parts = and_parts (test n) (list_all test names) all in
    by_part parts.0 (λ k. every test names name parts.1 k) (split n names name h)
  where
    by_part : IsTrue (test n) → (Contains names name → IsTrue (test name)) → (n ≡ name) ⊎ Contains names name → IsTrue (test name)
    by_part here again (inl e) = subst (λ x. IsTrue (test x)) e here
    by_part here again (inr k) = again k

all_of : (test : List ℕ → Bool) (names : List (List ℕ)) → ((name : List ℕ) → Contains names name → IsTrue (test name)) → IsTrue (list_all test names)
all_of test [] each = refl
all_of test (n ∷ names) each = and_from (test n) (list_all test names) (each n (first n names)) (all_of test names (λ name h. each name (later n names name h)))

module _ (world : World) where
  super_passes : (test : Loaded → Bool) (class : Class) (s : Loaded) → IsTrue (each_super world test class) → Contains (supers_in world class) s → IsTrue (test s)
  super_passes test class s all h =
      let found = in_found (class_named world) (super_names class) s h in
      subst (λ o. IsTrue (passes test o)) found.2 (every (λ name. passes test (class_named world name)) (super_names class) found.0 all found.1)

  -- each is there
  there : (test : Loaded → Bool) (class : Class) → IsTrue (each_super world test class) → IsTrue (each_super world (λ s. true) class)
  there test class all = all_of (λ name. passes (λ s. true) (class_named world name)) (super_names class)
      (λ name h. by_class (class_named world name) (every (λ n. passes test (class_named world n)) (super_names class) name all h))
    where
      by_class : (o : Option Loaded) → IsTrue (passes test o) → IsTrue (passes (λ s. true) o)
      by_class None t = absurd cc
      by_class (Some s) t = refl

  -- each that is there passes
  each_passes : (test : Loaded → Bool) (class : Class) → IsTrue (each_super world (λ s. true) class) →
      ((s : Loaded) → Contains (supers_in world class) s → IsTrue (test s)) → IsTrue (each_super world test class)
  each_passes test class all each = all_of (λ name. passes test (class_named world name)) (super_names class)
      (λ name h. by_class name h (class_named world name) refl (every (λ n. passes (λ s. true) (class_named world n)) (super_names class) name all h))
    where
      by_class : (name : List ℕ) → Contains (super_names class) name → (o : Option Loaded) → class_named world name ≡ o → IsTrue (passes (λ s. true) o) → IsTrue (passes test o)
      by_class name h None e t = absurd cc
      by_class name h (Some s) e t = each s (found_in (class_named world) (super_names class) name s h e)

  super_in_world : (class : Class) (s : Loaded) → Contains (supers_in world class) s → Contains world s
  super_in_world class s h =
      let found = in_found (class_named world) (super_names class) s h in
      found_stands (λ l. bytes_eq l.class.name found.0) world s found.2

-- ---- both ways

pub loadable_resolves : AboveByWays → AboveIsTransitive → LoadableByAll → LoadableResolves
loadable_resolves ways above_above all_stand world l system in_world = by_system l.by_system refl
  where
    A : Bool
    A = not (is_circular world l.class)

    B : Bool
    B = each_super world (is_loadable world) l.class

    B1 : Bool
    B1 = each_super world (λ s. true) l.class

    C : Bool
    C = have_right_kind world l.class

    D : Bool
    D = can_name_supers world l

    system_loadable : (k : ℕ) → IsTrue l.by_system → IsTrue (is_loadable_within world k l)
    system_loadable zero h = h
    system_loadable (suc k) h = ap (λ b. b || (not (is_circular world l.class) && each_super world (is_loadable_within world k) l.class && have_right_kind world l.class && can_name_supers world l)) h

    stands : l.by_system ≡ false → IsTrue (A && B && C && D) → IsTrue (is_loadable world l)
    stands e h = (all_stand world l system in_world).1 (own, λ s k. by_way s ((ways world l.class s).0 k))
      where
        d : IsTrue (A && B && C) × IsTrue D
        d = and_parts (A && B && C) D h

        c : IsTrue (A && B) × IsTrue C
        c = and_parts (A && B) C d.0

        b : IsTrue A × IsTrue B
        b = and_parts A B c.0

        own : IsTrue (stands_itself world l)
        own = ap (λ x. x || (A && B1 && C && D)) e ∙ and_from (A && B1 && C) D (and_from (A && B1) C (and_from A B1 b.0 (there world (is_loadable world) l.class b.1)) c.1) d.1

        super_stands : (s : Loaded) → Contains (supers_in world l.class) s → IsTrue (stands_itself world s) × ((x : Loaded) → Contains (above world s.class) x → IsTrue (stands_itself world x))
        super_stands s j = (all_stand world s system (super_in_world world l.class s j)).0 (super_passes world (is_loadable world) l.class s b.1 j)

        by_way : (s : Loaded) → (between : List Loaded) × IsWayUp world l.class between s → IsTrue (stands_itself world s)
        by_way s way = by_list way.0 way.1
          where
            by_list : (between : List Loaded) → IsWayUp world l.class between s → IsTrue (stands_itself world s)
            by_list [] w = (super_stands s w).0
            by_list (x ∷ more) w = (super_stands x w.0).1 s ((ways world x.class s).1 (more, w.1))

    tested : l.by_system ≡ false → IsTrue (is_loadable world l) → IsTrue (A && B && C && D)
    tested e h = and_from (A && B && C) D (and_from (A && B) C (and_from A B b.0 supers) c.1) d.1
      where
        all : IsTrue (stands_itself world l) × ((s : Loaded) → Contains (above world l.class) s → IsTrue (stands_itself world s))
        all = (all_stand world l system in_world).0 h

        d : IsTrue (A && B1 && C) × IsTrue D
        d = and_parts (A && B1 && C) D (subst (λ x. IsTrue (x || (A && B1 && C && D))) e all.0)

        c : IsTrue (A && B1) × IsTrue C
        c = and_parts (A && B1) C d.0

        b : IsTrue A × IsTrue B1
        b = and_parts A B1 c.0

        supers : IsTrue B
        supers = each_passes world (is_loadable world) l.class b.1
            (λ s j. (all_stand world s system (super_in_world world l.class s j)).1
            (all.1 s (direct ways above_above world l.class s j), λ x k. all.1 x (above_above world l.class s x (direct ways above_above world l.class s j) k)))

    error_is : l.by_system ≡ false → error_of_class world l ≡ option_and_then loading_error (verdict_of_class world l)
    error_is e = ap (λ b. if b then None else option_and_then loading_error (verdict_of_class world l)) e

    by_system : (b : Bool) → l.by_system ≡ b → ((error_of_class world l ≡ None) → IsTrue (is_loadable world l)) × (IsTrue (is_loadable world l) → error_of_class world l ≡ None)
    by_system true e = (λ h. system_loadable (length world) e, λ h. ap (λ b. if b then None else option_and_then loading_error (verdict_of_class world l)) e)
    by_system false e = (
      λ h. stands e (none_wrong (is_circular world l.class) B C D (has_final_super world l.class || breaks_final l [] (superclasses world l.class)) (sym (error_is e) ∙ h)),
      λ h. error_is e ∙ right (is_circular world l.class) B C D (has_final_super world l.class || breaks_final l [] (superclasses world l.class)) (tested e h),
    )
