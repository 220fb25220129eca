-- The order of classes, and what is above a class (JVMS 5.3.5): superclasses and superinterfaces alike.
use Rattle.std.proofs.Common.{◌≡◌, ℕ, Bool, true, not, ◌&&◌, ◌||◌, List, [], ◌∷◌, ◌++◌, length, Option, Some, None, refl, sym, ap, ◌∙◌, subst, inl, inr}
use Rattle.std.specs.Prelude.{◌⊎◌, IsTrue}
use Rattle.std.specs.List.{Contains, list_all}
use Rattle.std.specs.Str.{bytes_eq}
use Rattle.std.specs.Cmp.Lexicographic.{nat_list_eq_equiv}
use Rattle.std.proofs.lemmas.Bool.{and_parts, and_from, or_cases, or_left, or_right}
use Rattle.std.proofs.lemmas.List.Elements.{Contains-append_cases}
use Rattle.jv_text.specs.declared.descriptor.FieldTypeOf.{FieldTypeOf}
use Rattle.jv_stackmap.specs.declared.verification.VerificationTypeOf.TheVariants as types
use Rattle.jv_class.specs.Class.{Class}
use Rattle.jv_meaning_world.specs.World.{Loaded, World, class_named}
use Rattle.jv_meaning_world.specs.Above.{class_if_named, superclass_names, super_names, superclass_in, superclasses, supers_in, above, is_above, is_circular}
use Rattle.jv_meaning_world.specs.Verdicts.{passes, superclass_passes, each_super, is_interface, have_right_kind, can_name_supers, is_loadable}
use Rattle.jv_meaning_world.specs.Laws.Above.{IsWayUp, SystemStandsAlone}
use Rattle.jv_meaning_world.proofs.Up.{none, single, first, found_super, named_stands, super_is_named, same_name, above_by_ways, above_is_transitive}
use Rattle.jv_meaning_world.proofs.Standing.{named_super, loadable_by_all}
use Rattle.jv_meaning_world.specs.Flow.{is_loadable_interface, class_flows, is_above_arrays}
use Rattle.jv_meaning_world.specs.Laws.Order.{object_name, names_interface, erased_name, IsBelow, leads_to, has_right_supers, IsRooted}
use Rattle.jv_meaning_world.proofs.Up.{has_name}
use Rattle.jv_meaning_world.proofs.OrderChains.{any_made, any_found, all_at, IsUp, superclass_by_way, way_to_superclass, superclasses_are_transitive}
use Rattle.jv_meaning_world.proofs.OrderNames.{same_some, IsSuperclassOf, flow_cases, flows_to_itself, flows_to_superclass, Climbs, climbs, interface_found, nothing_above_object, above_interface, by_erased, erased_to_object, plain_arrays, IsUnder, erased_kept}

-- ---- superclasses are above

superclass_is_super : (world : World) (class : Class) (s : Loaded) → superclass_in world class ≡ Some s → Contains (supers_in world class) s
superclass_is_super world class s e = by_name class.super_class refl e
  where
    by_name : (o : Option (List ℕ)) → class.super_class ≡ o → class_if_named world o ≡ Some s → Contains (supers_in world class) s
    by_name None f e = absurd cc
    by_name (Some name) f e =
        named_super world (super_names class) name s
        (subst (λ o. Contains (superclass_names o ++ class.interfaces) name) (sym f) (first name class.interfaces)) e

way_of_up : (world : World) (class : Class) (between : List Loaded) (to : Loaded) → IsUp world class between to → IsWayUp world class between to
way_of_up world class [] to way = superclass_is_super world class to way
way_of_up world class (by ∷ more) to way = (superclass_is_super world class by way.0, way_of_up world by.class more to way.1)

up_is_above : (world : World) (class : Class) (between : List Loaded) (to : Loaded) → IsUp world class between to → Contains (above world class) to
up_is_above world class between to way = (above_by_ways world class to).1 (between, way_of_up world class between to way)

named_above : (world : World) (class : Class) (to : Loaded) (y : List ℕ) → Contains (above world class) to → to.class.name ≡ y → IsTrue (is_above world y class)
named_above world class to y h e =
    any_made (λ (s : Loaded). bytes_eq s.class.name y) (above world class) to h (subst (λ n. IsTrue (bytes_eq to.class.name n)) e (nat_list_eq_equiv.refl to.class.name))

module _ (world : World) (rooted : IsRooted world) where
  -- ---- the supers of a loadable class

  stand_alone : SystemStandsAlone world
  stand_alone l s there t h =
      let right = and_parts (leads_to world object_name l) (has_right_supers world l.class) (rooted.system l there t) in
      let supers = and_parts (each_super world (λ x. x.by_system) l.class) (have_right_kind world l.class) right.1 in
      let found = found_super world l.class s h in
      subst (λ o. IsTrue (passes (λ x. x.by_system) o)) found.2 (all_at (λ name. passes (λ x. x.by_system) (class_named world name)) (super_names l.class) found.0 supers.0 found.1)

  super_in_world : (class : Class) (s : Loaded) → Contains (supers_in world class) s → Contains world s
  super_in_world class s h = let found = found_super world class s h in named_stands world found.0 s found.2

  super_is_loadable : (l s : Loaded) → Contains world l → IsTrue (is_loadable world l) → Contains (supers_in world l.class) s → IsTrue (is_loadable world s)
  super_is_loadable l s there t h =
      let all = (loadable_by_all world l stand_alone there).0 t in
      let direct = (above_by_ways world l.class s).1 ([], h) in
      (loadable_by_all world s stand_alone (super_in_world l.class s h)).1 (all.1 s direct, λ to k. all.1 to (above_is_transitive world l.class s to direct k))

  right_kind : (l : Loaded) → Contains world l → IsTrue (is_loadable world l) → IsTrue (have_right_kind world l.class)
  right_kind l there t =
      by_loader (or_cases l.by_system (not (is_circular world l.class) && each_super world (λ s. true) l.class && have_right_kind world l.class &&
      can_name_supers world l) ((loadable_by_all world l stand_alone there).0 t).0)
    where
      A : Bool
      A = not (is_circular world l.class)

      B : Bool
      B = each_super world (λ s. true) l.class

      C : Bool
      C = have_right_kind world l.class

      D : Bool
      D = can_name_supers world l

      by_loader : (l.by_system ≡ true) ⊎ ((((A && B) && C) && D) ≡ true) → IsTrue C
      by_loader (inl h) =
          let right = and_parts (leads_to world object_name l) (has_right_supers world l.class) (rooted.system l there h) in
          (and_parts (each_super world (λ x. x.by_system) l.class) C right.1).1
      by_loader (inr h) =
          let d = and_parts ((A && B) && C) D h in
          (and_parts (A && B) C d.0).1

  -- the superclass, or a loadable interface
  kind_of_super : (l s : Loaded) → Contains world l → IsTrue (is_loadable world l) → Contains (supers_in world l.class) s → (superclass_in world l.class ≡ Some s) ⊎ IsTrue (is_interface s)
  kind_of_super l s there t h =
      let found = found_super world l.class s h in
      let kinds = and_parts (superclass_passes world (λ x. not (is_interface x)) l.class.super_class)
      (list_all (λ name. passes is_interface (class_named world name)) l.class.interfaces) (right_kind l there t) in
      by_part found.0 found.2 kinds.1 (Contains-append_cases (superclass_names l.class.super_class) l.class.interfaces found.0 found.1)
    where
      by_name : (name : List ℕ) → class_named world name ≡ Some s → (o : Option (List ℕ)) → Contains (superclass_names o) name → class_if_named world o ≡ Some s
      by_name name e None k = absurd (none name k)
      by_name name e (Some n) k = ap (class_named world) (single n name k) ∙ e

      by_part : (name : List ℕ) → class_named world name ≡ Some s → IsTrue (list_all (λ n. passes is_interface (class_named world n)) l.class.interfaces)
          → Contains (superclass_names l.class.super_class) name ⊎ Contains l.class.interfaces name → (superclass_in world l.class ≡ Some s) ⊎ IsTrue (is_interface s)
      by_part name e all (inl k) = inl (by_name name e l.class.super_class k)
      by_part name e all (inr k) = inr (subst (λ o. IsTrue (passes is_interface o)) e (all_at (λ n. passes is_interface (class_named world n)) l.class.interfaces name all k))

  named_interface : (s : Loaded) → class_named world s.class.name ≡ Some s → IsTrue (is_loadable world s) → IsTrue (is_interface s) → IsTrue (names_interface world s.class.name)
  named_interface s e t i = subst (λ o. IsTrue (is_loadable_interface world o)) (sym e) (and_from (is_loadable world s) (is_interface s) t i)

  -- ---- what is above a loadable class: interfaces, java/lang/Object and superclasses

  abbrev Above : Loaded → Loaded → Type 0
  Above l to = IsTrue (names_interface world to.class.name) ⊎ ((to.class.name ≡ object_name) ⊎ Contains (superclasses world l.class) to)

  above_cases : (l to : Loaded) (between : List Loaded) → Contains world l → IsTrue (is_loadable world l) → IsWayUp world l.class between to → Above l to
  above_cases l to [] there t way = by_kind (kind_of_super l to there t way)
    where
      by_kind : (superclass_in world l.class ≡ Some to) ⊎ IsTrue (is_interface to) → Above l to
      by_kind (inl e) = inr (inr (way_to_superclass world l.class to [] e))
      by_kind (inr i) = inl (named_interface to (super_is_named world l.class to way) (super_is_loadable l to there t way) i)
  above_cases l to (by ∷ more) there t way =
      by_kind (kind_of_super l by there t way.0) (above_cases by to more (super_in_world l.class by way.0) (super_is_loadable l by there t way.0) way.1)
    where
      named : class_named world by.class.name ≡ Some by
      named = super_is_named world l.class by way.0

      by_chain : (superclass_in world l.class ≡ Some by) ⊎ IsTrue (is_interface by) → Contains (superclasses world by.class) to → Above l to
      by_chain (inl e) h = inr (inr (superclasses_are_transitive world l.class by to (way_to_superclass world l.class by [] e) h))
      by_chain (inr i) h =
          let loadable = super_is_loadable l by there t way.0 in
          inr (inl (above_interface world rooted by.class.name to.class.name (named_interface by named loadable i)
          (record { from = by; to = to; found = named; loadable = loadable; on_chain = h; named = refl })))

      by_kind : (superclass_in world l.class ≡ Some by) ⊎ IsTrue (is_interface by) → Above by to → Above l to
      by_kind kind (inl i) = inl i
      by_kind kind (inr (inl e)) = inr (inl e)
      by_kind kind (inr (inr h)) = by_chain kind h

  -- ---- laws

  -- A loadable class is below what is above it: so an instance of a class fits the type of that class.
  pub above_is_below : (x y : List ℕ) (l : Loaded) → class_named world x ≡ Some l → IsTrue (is_loadable world l) → IsTrue (is_above world y l.class) → IsBelow world (types.Class x) (types.Class y)
  above_is_below x y l at t h =
      let one = any_found (λ (s : Loaded). bytes_eq s.class.name y) (above world l.class) h in
      let way = (above_by_ways world l.class one.0).0 one.1 in
      by_case one.0 (same_name one.0.class.name y one.2) (above_cases l one.0 way.0 (named_stands world x l at) t way.1)
    where
      loadable : IsTrue (passes (is_loadable world) (class_named world x))
      loadable = subst (λ o. IsTrue (passes (is_loadable world) o)) (sym at) t

      top : IsUnder world x object_name
      top = erased_to_object world rooted x loadable

      by_case : (to : Loaded) → to.class.name ≡ y → Above l to → IsUnder world x (erased_name world y)
      by_case to e (inl i) = by_erased world rooted (IsUnder world x) y (λ j. top) (λ plain. absurd (plain (subst (λ n. IsTrue (names_interface world n)) e i)))
      by_case to e (inr (inl o)) = by_erased world rooted (IsUnder world x) y (λ j. top) (λ plain. subst (IsUnder world x) (sym o ∙ e) top)
      by_case to e (inr (inr k)) =
          erased_kept world rooted x x y loadable (flows_to_itself world (erased_name world x))
          (flows_to_superclass world x y (record { from = l; to = to; found = at; loadable = t; on_chain = k; named = e }))

  -- And a class that is below another that is no interface is that one, or has it above.
  pub below_is_above : (x y : List ℕ) (l : Loaded) → class_named world x ≡ Some l → (IsTrue (names_interface world y) → ⊥) →
      IsBelow world (types.Class x) (types.Class y) → IsTrue (bytes_eq x y || is_above world y l.class)
  below_is_above x y l at plain h = by_erased world rooted (λ n. IsTrue (class_flows world n y) → IsTrue (bytes_eq x y || is_above world y l.class)) x by_interface (λ other. by_plain) unerased
    where
      unerased : IsUnder world x y
      unerased = by_erased world rooted (λ n. IsUnder world x n → IsUnder world x y) y (λ i k. absurd (plain i)) (λ other k. k) h

      is_same : x ≡ y → IsTrue (bytes_eq x y || is_above world y l.class)
      is_same e = or_left (bytes_eq x y) (is_above world y l.class) (subst (λ n. IsTrue (bytes_eq x n)) e (nat_list_eq_equiv.refl x))

      is_up : (between : List Loaded) (to : Loaded) → IsUp world l.class between to → to.class.name ≡ y → IsTrue (bytes_eq x y || is_above world y l.class)
      is_up between to way e = or_right (bytes_eq x y) (is_above world y l.class) (named_above world l.class to y (up_is_above world l.class between to way) e)

      by_climb : object_name ≡ y → Climbs world l → IsTrue (bytes_eq x y || is_above world y l.class)
      by_climb e (inl named) = is_same (sym (has_name world x l at) ∙ (named ∙ e))
      by_climb e (inr found) = is_up found.0 found.1 found.2 (found.3 ∙ e)

      by_interface : IsTrue (names_interface world x) → IsTrue (class_flows world object_name y) → IsTrue (bytes_eq x y || is_above world y l.class)
      by_interface i k = by_case (flow_cases world object_name y k)
        where
          loadable : IsTrue (is_loadable world l)
          loadable = let found = interface_found world rooted x i in subst (λ (m : Loaded). IsTrue (is_loadable world m)) (same_some found.0 l (sym found.1 ∙ at)) found.2

          by_case : (object_name ≡ y) ⊎ (IsTrue (names_interface world y) ⊎ IsSuperclassOf world object_name y) → IsTrue (bytes_eq x y || is_above world y l.class)
          by_case (inl e) = by_climb e (climbs world rooted (length world) l (named_stands world x l at) loadable)
          by_case (inr (inl j)) = absurd (plain j)
          by_case (inr (inr f)) = absurd (nothing_above_object world rooted y f)

      by_plain : IsTrue (class_flows world x y) → IsTrue (bytes_eq x y || is_above world y l.class)
      by_plain k = by_case (flow_cases world x y k)
        where
          by_case : (x ≡ y) ⊎ (IsTrue (names_interface world y) ⊎ IsSuperclassOf world x y) → IsTrue (bytes_eq x y || is_above world y l.class)
          by_case (inl e) = is_same e
          by_case (inr (inl j)) = absurd (plain j)
          by_case (inr (inr f)) =
              let way = superclass_by_way world f.from.class f.to f.on_chain in
              let same : f.from ≡ l = same_some f.from l (sym f.found ∙ at) in
              is_up way.0 f.to (subst (λ (m : Loaded). IsUp world m.class way.0 f.to) same way.1) f.named

  -- where neither is an interface, the one is the other, or a superclass of it is
  pub below_is_superclass : (x y : List ℕ) → (IsTrue (names_interface world x) → ⊥) → (IsTrue (names_interface world y) → ⊥) →
      IsBelow world (types.Class x) (types.Class y) → (x ≡ y) ⊎ IsSuperclassOf world x y
  below_is_superclass x y plain other h =
      by_case
      (flow_cases world x y
      (by_erased world rooted (λ n. IsTrue (class_flows world n y) → IsTrue (class_flows world x y)) x (λ i k. absurd (plain i)) (λ own k. k)
      (by_erased world rooted (λ n. IsUnder world x n → IsUnder world x y) y (λ i k. absurd (other i)) (λ own k. k) h)))
    where
      by_case : (x ≡ y) ⊎ (IsTrue (names_interface world y) ⊎ IsSuperclassOf world x y) → (x ≡ y) ⊎ IsSuperclassOf world x y
      by_case (inl e) = inl e
      by_case (inr (inl i)) = absurd (other i)
      by_case (inr (inr f)) = inr f

  -- an array is below no class but java/lang/Object
  pub array_below_class : (components : FieldTypeOf (List ℕ)) (y : List ℕ) → (IsTrue (names_interface world y) → ⊥) → IsBelow world (types.Array components) (types.Class y) → y ≡ object_name
  array_below_class components y plain h =
      plain_arrays world rooted y plain (by_erased world rooted (λ n. IsTrue (is_above_arrays n) → IsTrue (is_above_arrays y)) y (λ i k. absurd (plain i)) (λ own k. k) h)
