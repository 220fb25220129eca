-- Ways along numbers and ways up from a class.
use Rattle.std.proofs.Common.{◌≡◌, ℕ, zero, suc, ◌<◌, Bool, true, false, ◌||◌, List, [], ◌∷◌, length, map, get_or, Option, Some, refl, sym, ap, ◌∙◌, subst, inl, inr}
use Rattle.std.specs.Prelude.{◌↔◌, ◌⊎◌, IsTrue, slice_get}
use Rattle.std.specs.List.{Contains, list_any}
use Rattle.std.specs.Str.{bytes_eq}
use Rattle.std.specs.Cmp.Lexicographic.{nat_list_eq_equiv}
use Rattle.std.proofs.lemmas.List.Elements.{Contains-append_cases}
use Rattle.std.proofs.lemmas.Option.{slice_get-get_or, slice_get_within, get_or_from_slice_get}
use Rattle.std.proofs.lemmas.List.{get_or-map}
use Rattle.jv_classes.proofs.RelationWays.{to_below}
use Rattle.jv_classes.specs.Inside.Told.{TellsAbove, AreAllMarked}
use Rattle.jv_class.specs.Class.{Class}
use Rattle.jv_classes.specs.Ways.{Rows, related, IsSquare, IsWay, Reaches}
use Rattle.jv_meaning_world.specs.World.{Loaded, World, class_named}
use Rattle.jv_meaning_world.specs.Above.{supers_in, above, is_above}
use Rattle.jv_meaning_world.specs.Laws.Above.{IsWayUp, stands_itself, SystemStandsAlone, LoadableByAll}
use Rattle.jv_meaning_world.specs.Verdicts.{is_loadable}
use Rattle.jv_meaning_world.proofs.Up.{none, first, later, single, same_name, super_is_named, above_by_ways}
use Rattle.jv_meaning_world.specs.Numbers.{IsNumbered}
use Rattle.jv_classes.specs.Inside.Direct.{IsDirect}
use Rattle.jv_classes.proofs.Numbers.{numbered, number_at}

pub one_class : (o : Option Loaded) (a b : Loaded) → o ≡ Some a → o ≡ Some b → a ≡ b
one_class o a b e f = same (sym e ∙ f)
  where
    same : Some a ≡ Some b → a ≡ b
    same e = cc

up_of_numbers : (world : World) (rows : Rows) → IsDirect world rows → (a b : ℕ) (between : List ℕ) (l to : Loaded) → slice_get world a ≡ Some l → slice_get world b ≡ Some to → IsWay rows a between b
    → (ls : List Loaded) × IsWayUp world l.class ls to
up_of_numbers world rows direct a b [] l to at_a at_b way =
    let step = (direct a b).0 way in (
      [],
      subst (λ (m : Loaded). Contains (supers_in world m.class) to) (one_class (slice_get world a) step.from l step.from_at at_a)
          (subst (Contains (supers_in world step.from.class)) (one_class (slice_get world b) step.to to step.to_at at_b) step.above),
    )
up_of_numbers world rows direct a b (by ∷ more) l to at_a at_b way =
    let step = (direct a by).0 way.0 in
    let rest = up_of_numbers world rows direct by b more step.to to step.to_at at_b way.1 in
    (step.to ∷ rest.0, (subst (λ (m : Loaded). Contains (supers_in world m.class) step.to) (one_class (slice_get world a) step.from l step.from_at at_a) step.above, rest.1))

numbers_of_up : (world : World) (rows : Rows) → IsDirect world rows → (a b : ℕ) (ls : List Loaded) (l to : Loaded) → slice_get world a ≡ Some l →
    slice_get world b ≡ Some to → IsWayUp world l.class ls to
    → Reaches rows a b
numbers_of_up world rows direct a b [] l to at_a at_b way = ([], (direct a b).1 (record { from = l; to = to; from_at = at_a; to_at = at_b; above = way }))
numbers_of_up world rows direct a b (s ∷ ls) l to at_a at_b way =
    let place = numbered world s.class.name s (super_is_named world l.class s way.0) in
    let rest = numbers_of_up world rows direct place.0 b ls s to place.2 at_b way.1 in
    (place.0 ∷ rest.0, ((direct a place.0).1 (record { from = l; to = s; from_at = at_a; to_at = place.2; above = way.0 }), rest.1))

-- what is reached is above
pub reached_is_above : (world : World) (rows : Rows) → IsDirect world rows → (a b : ℕ) (l to : Loaded) → slice_get world a ≡ Some l →
    slice_get world b ≡ Some to → Reaches rows a b → Contains (above world l.class) to
reached_is_above world rows direct a b l to at_a at_b way = (above_by_ways world l.class to).1 (up_of_numbers world rows direct a b way.0 l to at_a at_b way.1)

pub above_is_reached : (world : World) (rows : Rows) → IsDirect world rows → (a b : ℕ) (l to : Loaded) → slice_get world a ≡ Some l →
    slice_get world b ≡ Some to → Contains (above world l.class) to → Reaches rows a b
above_is_reached world rows direct a b l to at_a at_b h =
    let way = (above_by_ways world l.class to).0 h in
    numbers_of_up world rows direct a b way.0 l to at_a at_b way.1

-- what is above is the class of its name
end_is_named : (world : World) (class : Class) (ls : List Loaded) (to : Loaded) → IsWayUp world class ls to → class_named world to.class.name ≡ Some to
end_is_named world class [] to way = super_is_named world class to way
end_is_named world class (s ∷ ls) to way = end_is_named world s.class ls to way.1

pub above_is_named : (world : World) (class : Class) (to : Loaded) → Contains (above world class) to → class_named world to.class.name ≡ Some to
above_is_named world class to h = let way = (above_by_ways world class to).0 h in end_is_named world class way.0 to way.1

pub at_place : (world : World) (a : ℕ) (l : Loaded) → slice_get world a ≡ Some l → Contains world l
at_place [] a l e = absurd (none_there a e)
  where
    none_there : (k : ℕ) → slice_get [] k ≡ Some l → ⊥
    none_there zero e = absurd cc
    none_there (suc k) e = absurd cc
at_place (x ∷ world) zero l e = subst (Contains (x ∷ world)) (same e) (first x world)
  where
    same : Some x ≡ Some l → x ≡ l
    same e = cc
at_place (x ∷ world) (suc k) l e = later x world l (at_place world k l e)

-- ---- tests of a list

pub any_if : (test : Loaded → Bool) (ls : List Loaded) (l : Loaded) → Contains ls l → IsTrue (test l) → IsTrue (list_any test ls)
any_if test [] l h t = absurd (none l h)
any_if test (x ∷ ls) l h t = by_part (λ k. any_if test ls l k t) (Contains-append_cases (x ∷ []) ls l h)
  where
    left : (a b : Bool) → IsTrue a → IsTrue (a || b)
    left true b e = refl
    left false b e = absurd cc

    right : (a b : Bool) → IsTrue b → IsTrue (a || b)
    right true b e = refl
    right false b e = e

    by_part : (Contains ls l → IsTrue (list_any test ls)) → Contains (x ∷ []) l ⊎ Contains ls l → IsTrue (test x || list_any test ls)
    by_part again (inl here) = left (test x) (list_any test ls) (subst (λ y. IsTrue (test y)) (sym (single x l here)) t)
    by_part again (inr there) = right (test x) (list_any test ls) (again there)

pub one_of_any : (test : Loaded → Bool) (ls : List Loaded) → IsTrue (list_any test ls) → (l : Loaded) × Contains ls l × IsTrue (test l)
one_of_any test [] h = absurd cc
one_of_any test (x ∷ ls) h = by_test (test x) refl (λ k. one_of_any test ls k) h
  where
    by_test : (b : Bool) → test x ≡ b → (IsTrue (list_any test ls) → (l : Loaded) × Contains ls l × IsTrue (test l)) →
        IsTrue (b || list_any test ls) → (l : Loaded) × Contains (x ∷ ls) l × IsTrue (test l)
    by_test true e again h = (x, first x ls, e)
    by_test false e again h = let found = again h in (found.0, later x ls found.0 found.1, found.2)

-- ---- the test for a class above

pub equal_tests : (a b : Bool) → (IsTrue a → IsTrue b) → (IsTrue b → IsTrue a) → a ≡ b
equal_tests true b f g = sym (f refl)
equal_tests false true f g = g refl
equal_tests false false f g = refl

pub above_if : (world : World) (closed direct : Rows) → IsNumbered world → IsDirect world direct → ((a b : ℕ) → IsTrue (related closed a b) ↔ Reaches direct a b)
    → (a b : ℕ) (l to : Loaded) → slice_get world a ≡ Some l → slice_get world b ≡ Some to → related closed a b ≡ is_above world to.class.name l.class
above_if world closed direct numbers is_direct reach a b l to at_a at_b = equal_tests (related closed a b) (is_above world to.class.name l.class) found back
  where
    found : IsTrue (related closed a b) → IsTrue (is_above world to.class.name l.class)
    found h = any_if (λ s. bytes_eq s.class.name to.class.name) (above world l.class) to
        (reached_is_above world direct is_direct a b l to at_a at_b ((reach a b).0 h)) (nat_list_eq_equiv.refl to.class.name)

    back : IsTrue (is_above world to.class.name l.class) → IsTrue (related closed a b)
    back h =
        let one = one_of_any (λ s. bytes_eq s.class.name to.class.name) (above world l.class) h in
        let named = above_is_named world l.class one.0 one.1 in
        let same : one.0 ≡ to = one_class (class_named world to.class.name) one.0 to
        (ap (class_named world) (sym (same_name one.0.class.name to.class.name one.2)) ∙ named)
        (number_at world to.class.name b (numbers b to at_b) ∙ at_b) in
        (reach a b).1 (above_is_reached world direct is_direct a b l to at_a at_b (subst (Contains (above world l.class)) same one.1))

-- ---- the test for a loadable class

pub loadable_if : LoadableByAll → (world : World) (rows : Rows) → IsNumbered world → SystemStandsAlone world → IsSquare rows → length rows ≡ length world → TellsAbove world rows
    → (stand : List Bool) → stand ≡ map (stands_itself world) world → (a : ℕ) (l : Loaded) → slice_get world a ≡ Some l
    → IsTrue (is_loadable world l) ↔ AreAllMarked rows stand a
loadable_if law world rows numbers alone square size tells stand is a l at_a = (there, back)
  where
    stands_at : (k : ℕ) (s : Loaded) → slice_get world k ≡ Some s → get_or stand k false ≡ stands_itself world s
    stands_at k s e = ap (λ bs. get_or bs k false) is ∙ (get_or-map (stands_itself world) world k s false (slice_get_within world k s e) ∙
        ap (stands_itself world) (get_or_from_slice_get world k s s e))

    there : IsTrue (is_loadable world l) → AreAllMarked rows stand a
    there h =
        let all = (law world l alone (at_place world a l at_a)).0 h in (
          subst IsTrue (sym (stands_at a l at_a)) all.0,
          λ to t.
              let less : to < length world = subst (λ n. to < n) size (to_below rows a to square t) in
              let s = get_or world to l in
              let at_to = slice_get-get_or world to l less in
              let one = one_of_any (λ m. bytes_eq m.class.name s.class.name) (above world l.class) (subst IsTrue (tells a to l s at_a at_to) t) in
              let named = above_is_named world l.class one.0 one.1 in
              let same : one.0 ≡ s = one_class (class_named world s.class.name) one.0 s
              (ap (class_named world) (sym (same_name one.0.class.name s.class.name one.2)) ∙ named)
              (number_at world s.class.name to (numbers to s at_to) ∙ at_to) in
              subst IsTrue (sym (stands_at to s at_to)) (all.1 s (subst (Contains (above world l.class)) same one.1)),
        )

    back : AreAllMarked rows stand a → IsTrue (is_loadable world l)
    back h = (law world l alone (at_place world a l at_a)).1 (
      subst IsTrue (stands_at a l at_a) h.0,
      λ s k.
          let place = numbered world s.class.name s (above_is_named world l.class s k) in
          let t = any_if (λ m. bytes_eq m.class.name s.class.name) (above world l.class) s k (nat_list_eq_equiv.refl s.class.name) in
          subst IsTrue (stands_at place.0 s place.2) (h.1 place.0 (subst IsTrue (sym (tells a place.0 l s at_a place.2)) t)),
    )
