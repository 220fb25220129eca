-- Two worlds that have the same classes of the names that are known, which name known ones alone: what is above such a class.
use Rattle.std.proofs.Common.{◌≡◌, ℕ, Bool, true, false, ◌&&◌, ◌||◌, List, [], ◌∷◌, ◌++◌, Option, Some, None, refl, sym, ap, ◌∙◌, subst}
use Rattle.std.specs.Prelude.{IsTrue}
use Rattle.std.specs.List.{Contains, cons_option, filter_map, list_all}
use Rattle.std.specs.Str.{bytes_eq}
use Rattle.std.proofs.lemmas.Bool.{and_parts}
use Rattle.jv_meaning_world.specs.World.{Loaded, World, class_named}
use Rattle.jv_meaning_world.specs.Above.{superclass_names, super_names, supers_in, above, is_above, class_if_named, superclass_in}
use Rattle.jv_meaning_world.specs.Verdicts.{passes}
use Rattle.jv_meaning_world.specs.Laws.Above.{IsWayUp}
use Rattle.jv_meaning_world.specs.Laws.Order.{object_name, IsRooted}
use Rattle.jv_meaning_world.proofs.Up.{has_name, found_super, above_by_ways}
use Rattle.jv_meaning_world.proofs.OrderChains.{any_made, any_found, all_at}

-- ---- tests

pub same_test : (a b : Bool) → (IsTrue a → IsTrue b) → (IsTrue b → IsTrue a) → a ≡ b
same_test true b there back = sym (there refl)
same_test false true there back = back refl
same_test false false there back = refl

pub and_same : (a b c d : Bool) → a ≡ b → (a ≡ true → c ≡ d) → (a && c) ≡ (b && d)
and_same true b c d e f = f refl ∙ ap (λ x. x && d) e
and_same false b c d e f = ap (λ x. x && d) e

pub or_same : (a b c d : Bool) → a ≡ b → c ≡ d → (a || c) ≡ (b || d)
or_same a b c d e f = ap (λ x. x || c) e ∙ ap (λ x. b || x) f

-- ---- worlds that agree

pub record Agree (known : List ℕ → Bool) (v w : World) : Type 0 where
  pub named : (name : List ℕ) → IsTrue (known name) → class_named v name ≡ class_named w name
  pub supers : (name : List ℕ) (l : Loaded) → IsTrue (known name) → class_named v name ≡ Some l → IsTrue (list_all known (super_names l.class))
  pub object : IsTrue (known object_name)
  pub first_rooted : IsRooted v
  pub second_rooted : IsRooted w

pub turned : (known : List ℕ → Bool) (v w : World) → Agree known v w → Agree known w v
turned known v w agree = record {
  named = λ name k. sym (agree.named name k);
  supers = λ name l k e. agree.supers name l k (agree.named name k ∙ e);
  object = agree.object;
  first_rooted = agree.second_rooted;
  second_rooted = agree.first_rooted;
}

-- a class that the world has by a known name
pub record IsKnown (known : List ℕ → Bool) (v : World) (l : Loaded) : Type 0 where
  pub name : IsTrue (known l.class.name)
  pub found : class_named v l.class.name ≡ Some l

module _ (known : List ℕ → Bool) (v w : World) (agree : Agree known v w) where
  pub known_by : (name : List ℕ) (l : Loaded) → IsTrue (known name) → class_named v name ≡ Some l → IsKnown known v l
  known_by name l k e =
      let same = has_name v name l e in
      record { name = subst (λ n. IsTrue (known n)) (sym same) k; found = ap (class_named v) same ∙ e }

  pub known_too : (l : Loaded) → IsKnown known v l → IsKnown known w l
  known_too l k = record { name = k.name; found = sym (agree.named l.class.name k.name) ∙ k.found }

  pub own_supers : (l : Loaded) → IsKnown known v l → IsTrue (list_all known (super_names l.class))
  own_supers l k = agree.supers l.class.name l k.name k.found

  -- ---- direct supers

  pub listed_same : (names : List (List ℕ)) → IsTrue (list_all known names) → filter_map (class_named v) names ≡ filter_map (class_named w) names
  listed_same [] k = refl
  listed_same (n ∷ names) k =
      let parts = and_parts (known n) (list_all known names) k in
      ap (λ o. cons_option o (filter_map (class_named v) names)) (agree.named n parts.0) ∙ ap (cons_option (class_named w n)) (listed_same names parts.1)

  pub supers_same : (l : Loaded) → IsKnown known v l → supers_in v l.class ≡ supers_in w l.class
  supers_same l k = listed_same (super_names l.class) (own_supers l k)

  pub super_known : (l s : Loaded) → IsKnown known v l → Contains (supers_in v l.class) s → IsKnown known v s
  super_known l s k h =
      let found = found_super v l.class s h in
      known_by found.0 s (all_at known (super_names l.class) found.0 (own_supers l k) found.1) found.2

  -- ---- the superclass

  name_known : (o : Option (List ℕ)) (interfaces : List (List ℕ)) → IsTrue (list_all known (superclass_names o ++ interfaces))
      → (name : List ℕ) → o ≡ Some name → IsTrue (known name)
  name_known None interfaces k name e = absurd cc
  name_known (Some n) interfaces k name e = subst (λ x. IsTrue (known x)) (same e) (and_parts (known n) (list_all known interfaces) k).0
    where
      same : Some n ≡ Some name → n ≡ name
      same f = cc

  named_or_not : (o : Option (List ℕ)) → ((name : List ℕ) → o ≡ Some name → IsTrue (known name)) → class_if_named v o ≡ class_if_named w o
  named_or_not None k = refl
  named_or_not (Some name) k = agree.named name (k name refl)

  pub superclass_same : (l : Loaded) → IsKnown known v l → superclass_in v l.class ≡ superclass_in w l.class
  superclass_same l k = named_or_not l.class.super_class (name_known l.class.super_class l.class.interfaces (own_supers l k))

  pub superclass_known : (l s : Loaded) → IsKnown known v l → superclass_in v l.class ≡ Some s → IsKnown known v s
  superclass_known l s k e = by_name l.class.super_class refl e
    where
      by_name : (o : Option (List ℕ)) → l.class.super_class ≡ o → class_if_named v o ≡ Some s → IsKnown known v s
      by_name None f e = absurd cc
      by_name (Some name) f e = known_by name s (name_known l.class.super_class l.class.interfaces (own_supers l k) name f) e

  -- ---- ways up

  pub way_known : (l to : Loaded) (between : List Loaded) → IsKnown known v l → IsWayUp v l.class between to → IsKnown known v to
  way_known l to [] k way = super_known l to k way
  way_known l to (by ∷ more) k way = way_known by to more (super_known l by k way.0) way.1

  pub way_too : (l to : Loaded) (between : List Loaded) → IsKnown known v l → IsWayUp v l.class between to → IsWayUp w l.class between to
  way_too l to [] k way = subst (λ ls. Contains ls to) (supers_same l k) way
  way_too l to (by ∷ more) k way =
      (subst (λ ls. Contains ls by) (supers_same l k) way.0, way_too by to more (super_known l by k way.0) way.1)

  pub above_known : (l to : Loaded) → IsKnown known v l → Contains (above v l.class) to → IsKnown known v to
  above_known l to k h = let way = (above_by_ways v l.class to).0 h in way_known l to way.0 k way.1

  pub above_too : (l to : Loaded) → IsKnown known v l → Contains (above v l.class) to → Contains (above w l.class) to
  above_too l to k h =
      let way = (above_by_ways v l.class to).0 h in
      (above_by_ways w l.class to).1 (way.0, way_too l to way.0 k way.1)

  pub is_above_too : (name : List ℕ) (l : Loaded) → IsKnown known v l → IsTrue (is_above v name l.class) → IsTrue (is_above w name l.class)
  is_above_too name l k h =
      let one = any_found (λ (s : Loaded). bytes_eq s.class.name name) (above v l.class) h in
      any_made (λ (s : Loaded). bytes_eq s.class.name name) (above w l.class) one.0 (above_too l one.0 k one.1) one.2

  -- ---- tests of direct supers

  pub each_same : (one other : Loaded → Bool) → ((s : Loaded) → IsKnown known v s → one s ≡ other s)
      → (names : List (List ℕ)) → IsTrue (list_all known names)
      → list_all (λ name. passes one (class_named v name)) names ≡ list_all (λ name. passes other (class_named w name)) names
  each_same one other same [] k = refl
  each_same one other same (n ∷ names) k =
      let parts = and_parts (known n) (list_all known names) k in
      and_same (passes one (class_named v n)) (passes other (class_named w n)) (list_all (λ name. passes one (class_named v name)) names)
      (list_all (λ name. passes other (class_named w name)) names)
      (by_class (class_named v n) (λ s e. same s (known_by n s parts.0 e)) ∙ ap (passes other) (agree.named n parts.0))
      (λ t. each_same one other same names parts.1)
    where
      by_class : (o : Option Loaded) → ((s : Loaded) → o ≡ Some s → one s ≡ other s) → passes one o ≡ passes other o
      by_class None h = refl
      by_class (Some s) h = h s refl

pub is_above_same : (known : List ℕ → Bool) (v w : World) → Agree known v w → (name : List ℕ) (l : Loaded) → IsKnown known v l
    → is_above v name l.class ≡ is_above w name l.class
is_above_same known v w agree name l k = same_test (is_above v name l.class) (is_above w name l.class)
    (is_above_too known v w agree name l k) (is_above_too known w v (turned known v w agree) name l (known_too known v w agree l k))
