-- No class of the system is above itself, and so none that can be loaded.
use Rattle.std.proofs.Common.{◌≡◌, ℕ, zero, suc, ◌+◌, ◌<◌, Bool, true, false, not, ◌&&◌, ◌||◌, List, [], ◌∷◌, length, nat_lt, Some, codes, refl, sym, ap, ◌∙◌, subst, arith}
use Rattle.std.specs.Prelude.{IsTrue, IsFalse, if◌then◌else◌}
use Rattle.std.specs.List.{Contains, find, list_all, list_any}
use Rattle.std.specs.Str.{bytes_eq}
use Rattle.std.proofs.lemmas.Bool.{ltb-true, or_left}
use Rattle.jv_class.specs.Class.{Class}
use Rattle.jv_meaning_world.specs.FileContent.{FileContent}
use Rattle.jv_meaning_world.specs.Library.{char_sequence, comparable, system_with, with_library}
use Rattle.jv_meaning_world.specs.System.Classes.{system_classes}
use Rattle.jv_meaning_world.specs.System.Object.{object}
use Rattle.jv_meaning_world.specs.World.{Loaded, World, class_named, classes_in, world_of}
use Rattle.jv_meaning_world.specs.Above.{super_names, supers_in, above, is_circular}
use Rattle.jv_meaning_world.specs.Verdicts.{each_super, have_right_kind, can_name_supers, is_loadable_within, is_loadable}
use Rattle.jv_meaning_world.specs.Laws.Above.{AboveByWays, LoadableByAll, IsWayUp, stands_itself}
use Rattle.jv_meaning_world.proofs.Up.{first, later, found_super, named_stands, same_name}
use Rattle.jv_loader.specs.Straight.{IsStraight, AreStraight}
use Rattle.jv_loader.proofs.InSystem.{each_passes, of_system, stands_alone}

-- ---- what is found

pub found_has : (name_of : Loaded → List ℕ) (world : World) (name : List ℕ) (s : Loaded) → find (λ l. bytes_eq (name_of l) name) world ≡ Some s → name_of s ≡ name
found_has name_of [] name s e = absurd cc
found_has name_of (x ∷ world) name s e = by_test (bytes_eq (name_of x) name) refl (λ f. found_has name_of world name s f) e
  where
    same : Some x ≡ Some s → x ≡ s
    same e = cc

    by_test : (b : Bool) → bytes_eq (name_of x) name ≡ b → (find (λ l. bytes_eq (name_of l) name) world ≡ Some s → name_of s ≡ name) →
        (if b then Some x else find (λ l. bytes_eq (name_of l) name) world) ≡ Some s → name_of s ≡ name
    by_test true t again e = ap name_of (sym (same e)) ∙ same_name (name_of x) name t
    by_test false t again e = again e

passes_one : (test : Loaded → Bool) (ls : List Loaded) → IsTrue (list_any test ls) → (l : Loaded) × Contains ls l × IsTrue (test l)
passes_one test [] h = absurd cc
passes_one test (x ∷ ls) h = by_test (test x) refl (λ k. passes_one test ls k) h
  where
    by_test : (b : Bool) → test x ≡ b → (IsTrue (list_any test ls) → (l : Loaded) × Contains ls l × IsTrue (test l)) →
        IsTrue (b || list_any test ls) → (l : Loaded) × Contains (x ∷ ls) l × IsTrue (test l)
    by_test true t again h = (x, first x ls, t)
    by_test false t again h = let found = again h in (found.0, later x ls found.0 found.1, found.2)

-- ---- a rank, which is lower for supers, computed

rank_from : ℕ → List Class → List ℕ → ℕ
rank_from k [] name = k
rank_from k (c ∷ more) name = if bytes_eq c.name name then k else rank_from (k + 1) more name

-- java/lang/Object comes first, and each class behind its supers
rank : List ℕ → ℕ
unfolding rank_from
rank name = rank_from 0 (object ∷ comparable ∷ char_sequence ∷ system_classes) name

below_it : Class → Bool
below_it c = list_all (λ name. nat_lt (rank name) (rank c.name)) (super_names c)

all_below : (library : List Class) → IsTrue (list_all below_it (system_with library))
unfolding rank_from rank below_it
all_below [] = refl
all_below (first ∷ more) = refl

-- ---- the ways up from a class of the system

module _ (library : List Class) (files : List FileContent) where
  abbrev world : World
  world = world_of (with_library library) files

  super_is_below : (l s : Loaded) → Contains world l → IsTrue l.by_system → Contains (supers_in world l.class) s → rank s.class.name < rank l.class.name
  unfolding below_it
  super_is_below l s h t k =
      let known = of_system library (classes_in (with_library library) files) l h t in
      let found = found_super world l.class s k in
      let lower = each_passes below_it (system_with library) known.0 (all_below library) known.1 in
      let here = each_passes (λ name. nat_lt (rank name) (rank known.0.name)) (super_names known.0) found.0 lower
      (subst (λ (m : Loaded). Contains (super_names m.class) found.0) (sym known.2) found.1) in
      subst (λ n. n < rank l.class.name) (ap rank (sym (is_named found.0 found.2)))
      (subst (λ (m : Loaded). rank found.0 < rank m.class.name) known.2 (ltb-true (rank found.0) (rank known.0.name) here))
    where
      is_named : (name : List ℕ) → class_named world name ≡ Some s → s.class.name ≡ name
      is_named name e = found_has (λ (x : Loaded). x.class.name) world name s e

  way_is_below : (between : List Loaded) (l s : Loaded) → Contains world l → IsTrue l.by_system → IsWayUp world l.class between s → rank s.class.name < rank l.class.name
  way_is_below [] l s h t way = super_is_below l s h t way
  way_is_below (by ∷ more) l s h t way =
      let found = found_super world l.class by way.0 in
      let one = super_is_below l by h t way.0 in
      let rest = way_is_below more by s (named_stands world found.0 by found.2) (stands_alone library files l by h t way.0) way.1 in
      omega (arith, one, rest)

  system_is_straight : AboveByWays → (l : Loaded) → Contains world l → IsTrue l.by_system → IsFalse (is_circular world l.class)
  system_is_straight ways l h t = by_test (is_circular world l.class) refl
    where
      by_test : (b : Bool) → is_circular world l.class ≡ b → IsFalse b
      by_test false e = refl
      by_test true e =
          let found = passes_one (λ (s : Loaded). bytes_eq s.class.name l.class.name) (above world l.class) e in
          let way = (ways world l.class found.0).0 found.1 in
          let less = way_is_below way.0 l found.0 h t way.1 in
          let same : rank found.0.class.name ≡ rank l.class.name = ap rank (same_name found.0.class.name l.class.name found.2) in
          absurd (omega (arith, less, same))

  -- ---- loadable classes

  stands_straight : AboveByWays → (l : Loaded) → Contains world l → IsTrue (stands_itself world l) → IsFalse (is_circular world l.class)
  stands_straight ways l h t = by_loader l.by_system refl
    where
      by_loader : (b : Bool) → l.by_system ≡ b → IsFalse (is_circular world l.class)
      by_loader true e = system_is_straight ways l h e
      by_loader false e = not_so (is_circular world l.class) (first_of (is_circular world l.class) (each_super world (λ s. true) l.class)
          (have_right_kind world l.class) (can_name_supers world l)
          (subst (λ b. IsTrue (b || (not (is_circular world l.class) && each_super world (λ s. true) l.class && have_right_kind world l.class &&
          can_name_supers world l))) e t))
        where
          not_so : (b : Bool) → IsTrue (not b) → IsFalse b
          not_so true h = absurd cc
          not_so false h = refl

          first_of : (a b c d : Bool) → IsTrue (not a && b && c && d) → IsTrue (not a)
          first_of true b c d h = h
          first_of false b c d h = refl

  above_stands : AboveByWays → (l s : Loaded) → Contains (above world l.class) s → Contains world s
  above_stands ways l s h = let way = (ways world l.class s).0 h in by_way way.0 l.class way.1
    where
      by_way : (between : List Loaded) (class : Class) → IsWayUp world class between s → Contains world s
      by_way [] class way = let found = found_super world class s way in named_stands world found.0 s found.2
      by_way (by ∷ more) class way = by_way more by.class way.1

  loadable_is_straight : AboveByWays → LoadableByAll → (l : Loaded) → Contains world l → IsTrue (is_loadable world l) → IsStraight world l
  loadable_is_straight ways stand l h t =
      let all = (stand world l (stands_alone library files) h).0 t in
      record {
        itself = stands_straight ways l h all.0;
        above_it = λ s k. stands_straight ways s (above_stands ways l s k) (all.1 s k);
      }

  root_of : (library : List Class) (files : List FileContent) → (l : Loaded)
      × (class_named (world_of (with_library library) files) (codes "java/lang/Object") ≡ Some l) × (l.by_system ≡ true)
  root_of [] files = (_, refl, refl)
  root_of (first ∷ more) files = (_, refl, refl)

  system_is_loadable : (l : Loaded) → l.by_system ≡ true → (k : ℕ) → IsTrue (is_loadable_within world k l)
  system_is_loadable l e zero = e
  system_is_loadable l e (suc k) = or_left l.by_system _ e

  pub are_straight : AboveByWays → LoadableByAll → AreStraight world
  are_straight ways stand = record {
    loadable = loadable_is_straight ways stand;
    object = λ l e.
        let root = root_of library files in
        subst (λ (m : Loaded). IsTrue (is_loadable world m)) (same (sym root.1 ∙ e)) (system_is_loadable root.0 root.2 (length world));
  }
    where
      same : {x y : Loaded} → Some x ≡ Some y → x ≡ y
      same e = cc
