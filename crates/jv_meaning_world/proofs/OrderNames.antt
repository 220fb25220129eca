-- The order of classes by their names, with interfaces erased.
use Rattle.std.proofs.Common.{◌≡◌, ℕ, zero, suc, Bool, true, false, not, ◌&&◌, ◌||◌, List, [], ◌∷◌, ◌++◌, length, Option, Some, None, codes, refl, sym, ap, ◌∙◌, subst, inl, inr, if◌then◌else◌}
use Rattle.std.specs.Prelude.{◌⊎◌, IsTrue, is_none, is_some}
use Rattle.std.specs.List.{Contains, list_all, list_any}
use Rattle.std.specs.Str.{bytes_eq}
use Rattle.std.specs.Cmp.Lexicographic.{nat_list_eq_equiv}
use Rattle.std.proofs.lemmas.Bool.{and_parts, and_from, or_cases, or_left, or_right}
use Rattle.jv_class.specs.Rules.{is_object}
use Rattle.jv_class_structure.specs.Attributes.{some_and}
use Rattle.jv_meaning_world.specs.World.{Loaded, World, class_named}
use Rattle.jv_meaning_world.specs.Above.{class_if_named, superclass_in, superclasses, superclass_names, is_circular}
use Rattle.jv_meaning_world.specs.Verdicts.{passes, each_super, is_interface, have_right_kind, can_name_supers, is_loadable_within, is_loadable}
use Rattle.jv_meaning_world.proofs.Up.{named_stands, same_name}
use Rattle.jv_meaning_world.specs.Flow.{is_loadable_interface, is_loadable_below, class_flows, is_above_arrays}
use Rattle.jv_meaning_world.specs.Laws.Order.{object_name, names_interface, erased_name, leads_to, has_right_supers, IsRooted}
use Rattle.jv_meaning_world.proofs.Up.{has_name}
use Rattle.jv_meaning_world.proofs.OrderChains.{any_made, any_found, IsUp, superclass_by_way, way_to_superclass, superclasses_are_transitive, superclasses_are_named}

pub same_some : {X : Type 0} (a b : X) → Some a ≡ Some b → a ≡ b
same_some a b e = cc

unlike : true ≡ false → ⊥
unlike e = cc

-- ---- what it means that a class flows to another

-- one of the superclasses of a loadable class has the name
pub record IsSuperclassOf (world : World) (x y : List ℕ) : Type 0 where
  pub from : Loaded
  pub to : Loaded
  pub found : class_named world x ≡ Some from
  pub loadable : IsTrue (is_loadable world from)
  pub on_chain : Contains (superclasses world from.class) to
  pub named : to.class.name ≡ y

pub below_found : (world : World) (x y : List ℕ) → IsTrue (is_loadable_below world y (class_named world x)) → IsSuperclassOf world x y
below_found world x y h = by_class (class_named world x) refl h
  where
    by_class : (o : Option Loaded) → class_named world x ≡ o → IsTrue (is_loadable_below world y o) → IsSuperclassOf world x y
    by_class None e k = absurd cc
    by_class (Some l) e k =
        let parts = and_parts (is_loadable world l) (list_any (λ s. bytes_eq s.class.name y) (superclasses world l.class)) k in
        let one = any_found (λ (s : Loaded). bytes_eq s.class.name y) (superclasses world l.class) parts.1 in
        record { from = l; to = one.0; found = e; loadable = parts.0; on_chain = one.1; named = same_name one.0.class.name y one.2 }

pub below_made : (world : World) (x y : List ℕ) → IsSuperclassOf world x y → IsTrue (is_loadable_below world y (class_named world x))
below_made world x y h =
    subst (λ o. IsTrue (is_loadable_below world y o)) (sym h.found)
    (and_from (is_loadable world h.from) (list_any (λ s. bytes_eq s.class.name y) (superclasses world h.from.class)) h.loadable
    (any_made (λ (s : Loaded). bytes_eq s.class.name y) (superclasses world h.from.class) h.to h.on_chain
    (subst (λ n. IsTrue (bytes_eq h.to.class.name n)) h.named (nat_list_eq_equiv.refl h.to.class.name))))

-- it is the same, or an interface, or a superclass
pub flow_cases : (world : World) (x y : List ℕ) → IsTrue (class_flows world x y) → (x ≡ y) ⊎ (IsTrue (names_interface world y) ⊎ IsSuperclassOf world x y)
flow_cases world x y h = by_same (or_cases (bytes_eq x y) (names_interface world y || is_loadable_below world y (class_named world x)) h)
  where
    by_kind : (names_interface world y ≡ true) ⊎ (is_loadable_below world y (class_named world x) ≡ true) → (x ≡ y) ⊎ (IsTrue (names_interface world y) ⊎ IsSuperclassOf world x y)
    by_kind (inl k) = inr (inl k)
    by_kind (inr k) = inr (inr (below_found world x y k))

    by_same : (bytes_eq x y ≡ true) ⊎ ((names_interface world y || is_loadable_below world y (class_named world x)) ≡ true) → (x ≡ y) ⊎ (IsTrue (names_interface world y) ⊎ IsSuperclassOf world x y)
    by_same (inl k) = inl (same_name x y k)
    by_same (inr k) = by_kind (or_cases (names_interface world y) (is_loadable_below world y (class_named world x)) k)

pub flows_to_itself : (world : World) (x : List ℕ) → IsTrue (class_flows world x x)
flows_to_itself world x = or_left (bytes_eq x x) (names_interface world x || is_loadable_below world x (class_named world x)) (nat_list_eq_equiv.refl x)

pub flows_to_interface : (world : World) (x y : List ℕ) → IsTrue (names_interface world y) → IsTrue (class_flows world x y)
flows_to_interface world x y h =
    or_right (bytes_eq x y) (names_interface world y || is_loadable_below world y (class_named world x)) (or_left (names_interface world y) (is_loadable_below world y (class_named world x)) h)

pub flows_to_superclass : (world : World) (x y : List ℕ) → IsSuperclassOf world x y → IsTrue (class_flows world x y)
flows_to_superclass world x y h =
    or_right (bytes_eq x y) (names_interface world y || is_loadable_below world y (class_named world x))
    (or_right (names_interface world y) (is_loadable_below world y (class_named world x)) (below_made world x y h))

-- ---- one after the other, where no interface stands between

superclass_of_both : (world : World) (x y z : List ℕ) → IsSuperclassOf world x y → IsSuperclassOf world y z → IsSuperclassOf world x z
superclass_of_both world x y z h k =
    let named = superclasses_are_named world h.from.class h.to h.on_chain in
    let same : h.to ≡ k.from = same_some h.to k.from (sym named ∙ (ap (class_named world) h.named ∙ k.found)) in
    record {
      from = h.from;
      to = k.to;
      found = h.found;
      loadable = h.loadable;
      on_chain = superclasses_are_transitive world h.from.class h.to k.to h.on_chain (subst (λ (l : Loaded). Contains (superclasses world l.class) k.to) (sym same) k.on_chain);
      named = k.named;
    }

pub class_flows_on : (world : World) (x y z : List ℕ) → (IsTrue (names_interface world y) → ⊥) → IsTrue (class_flows world x y) → IsTrue (class_flows world y z) → IsTrue (class_flows world x z)
class_flows_on world x y z plain h k = by_first (flow_cases world x y h)
  where
    by_second : IsSuperclassOf world x y → (y ≡ z) ⊎ (IsTrue (names_interface world z) ⊎ IsSuperclassOf world y z) → IsTrue (class_flows world x z)
    by_second f (inl e) = subst (λ n. IsTrue (class_flows world x n)) e h
    by_second f (inr (inl i)) = flows_to_interface world x z i
    by_second f (inr (inr g)) = flows_to_superclass world x z (superclass_of_both world x y z f g)

    by_first : (x ≡ y) ⊎ (IsTrue (names_interface world y) ⊎ IsSuperclassOf world x y) → IsTrue (class_flows world x z)
    by_first (inl e) = subst (λ n. IsTrue (class_flows world n z)) (sym e) k
    by_first (inr (inl i)) = absurd (plain i)
    by_first (inr (inr f)) = by_second f (flow_cases world y z k)

-- ---- java/lang/Object

-- the class is java/lang/Object, or its superclasses lead up to it
abbrev pub Climbs : World → Loaded → Type 0
Climbs world l = (l.class.name ≡ object_name) ⊎ ((between : List Loaded) × (to : Loaded) × IsUp world l.class between to × (to.class.name ≡ object_name))

-- the class, erased, flows to the other
abbrev pub IsUnder : World → List ℕ → List ℕ → Type 0
IsUnder world w n = IsTrue (class_flows world (erased_name world w) n)

module _ (world : World) (rooted : IsRooted world) where
  -- it is no interface, and has no superclass
  object_parts : (l : Loaded) → class_named world object_name ≡ Some l → (is_interface l ≡ false) × (l.class.super_class ≡ None)
  object_parts l e =
      let parts = and_parts (not (is_interface l)) (is_none l.class.super_class) (rooted.object l e) in
      (turned (is_interface l) parts.0, none_there l.class.super_class parts.1)
    where
      turned : (b : Bool) → IsTrue (not b) → b ≡ false
      turned true h = absurd cc
      turned false h = refl

      none_there : (o : Option (List ℕ)) → IsTrue (is_none o) → o ≡ None
      none_there None h = refl
      none_there (Some name) h = absurd cc

  pub interface_found : (name : List ℕ) → IsTrue (names_interface world name) → (l : Loaded) × (class_named world name ≡ Some l) × IsTrue (is_loadable world l) × IsTrue (is_interface l)
  interface_found name h = by_class (class_named world name) refl h
    where
      by_class : (o : Option Loaded) → class_named world name ≡ o → IsTrue (is_loadable_interface world o) → (l : Loaded) ×
          (class_named world name ≡ Some l) × IsTrue (is_loadable world l) × IsTrue (is_interface l)
      by_class None e k = absurd cc
      by_class (Some l) e k = let parts = and_parts (is_loadable world l) (is_interface l) k in (l, e, parts.0, parts.1)

  pub object_is_plain : IsTrue (names_interface world object_name) → ⊥
  object_is_plain h = let found = interface_found object_name h in unlike (sym found.3 ∙ (object_parts found.0 found.1).0)

  pub nothing_above_object : (z : List ℕ) → IsSuperclassOf world object_name z → ⊥
  nothing_above_object z h =
      let way = superclass_by_way world h.from.class h.to h.on_chain in
      no_way h.from way.0 h.to (object_parts h.from h.found).1 way.1
    where
      no_way : (l : Loaded) (between : List Loaded) (to : Loaded) → l.class.super_class ≡ None → IsUp world l.class between to → ⊥
      no_way l [] to e way = nothing (sym (ap (class_if_named world) e) ∙ way)
        where
          nothing : None ≡ Some to → ⊥
          nothing f = cc
      no_way l (by ∷ more) to e way = nothing (sym (ap (class_if_named world) e) ∙ way.0)
        where
          nothing : None ≡ Some by → ⊥
          nothing f = cc

  -- ---- what a loadable class has above it

  system_climbs : (l : Loaded) → Contains world l → IsTrue l.by_system → Climbs world l
  system_climbs l there h =
      by_part (or_cases (bytes_eq l.class.name object_name) (list_any (λ s. bytes_eq s.class.name object_name) (superclasses world l.class))
      (and_parts (leads_to world object_name l) (has_right_supers world l.class) (rooted.system l there h)).0)
    where
      by_part : (bytes_eq l.class.name object_name ≡ true) ⊎ (list_any (λ (s : Loaded). bytes_eq s.class.name object_name) (superclasses world l.class) ≡ true) → Climbs world l
      by_part (inl e) = inl (same_name l.class.name object_name e)
      by_part (inr e) =
          let one = any_found (λ (s : Loaded). bytes_eq s.class.name object_name) (superclasses world l.class) e in
          let way = superclass_by_way world l.class one.0 one.1 in
          inr (way.0, one.0, way.1, same_name one.0.class.name object_name one.2)

  -- a class without a superclass is java/lang/Object
  without_superclass : (l : Loaded) → Contains world l → l.class.super_class ≡ None → l.class.name ≡ object_name
  without_superclass l there e = by_kind (is_interface l) (subst (λ o. IsTrue (if is_interface l then some_and is_object o else is_some o || is_object l.class.name)) e (rooted.superclass l there))
    where
      by_kind : (b : Bool) → IsTrue (if b then some_and is_object None else is_some {T = List ℕ} None || is_object l.class.name) → l.class.name ≡ object_name
      by_kind true h = absurd cc
      by_kind false h = same_name l.class.name object_name h

  own_supers : (k : ℕ) (l : Loaded) → IsTrue (is_loadable_within world (suc k) l) → IsTrue l.by_system ⊎ IsTrue (each_super world (is_loadable_within world k) l.class)
  own_supers k l h =
      by_part (or_cases l.by_system (not (is_circular world l.class) && each_super world (is_loadable_within world k) l.class && have_right_kind world l.class && can_name_supers world l) h)
    where
      A : Bool
      A = not (is_circular world l.class)

      B : Bool
      B = each_super world (is_loadable_within world k) l.class

      C : Bool
      C = have_right_kind world l.class

      D : Bool
      D = can_name_supers world l

      by_part : (l.by_system ≡ true) ⊎ ((((A && B) && C) && D) ≡ true) → IsTrue l.by_system ⊎ IsTrue B
      by_part (inl e) = inl e
      by_part (inr e) =
          let d = and_parts ((A && B) && C) D e in
          let c = and_parts (A && B) C d.0 in
          let b = and_parts A B c.0 in
          inr b.1

  one_step : (l s : Loaded) → superclass_in world l.class ≡ Some s → Climbs world s → Climbs world l
  one_step l s e (inl named) = inr ([], s, e, named)
  one_step l s e (inr found) = inr (s ∷ found.0, found.1, (e, found.2), found.3)

  pub climbs : (k : ℕ) (l : Loaded) → Contains world l → IsTrue (is_loadable_within world k l) → Climbs world l
  climbs zero l there h = system_climbs l there h
  climbs (suc k) l there h = by_part (own_supers k l h) (λ s at loadable. climbs k s at loadable)
    where
      by_class : (name : List ℕ) (o : Option Loaded) → class_named world name ≡ o → l.class.super_class ≡ Some name → IsTrue (passes (is_loadable_within world k) o)
          → ((s : Loaded) → Contains world s → IsTrue (is_loadable_within world k s) → Climbs world s) → Climbs world l
      by_class name None at e t again = absurd cc
      by_class name (Some s) at e t again = one_step l s (ap (class_if_named world) e ∙ at) (again s (named_stands world name s at) t)

      by_super : (o : Option (List ℕ)) → l.class.super_class ≡ o → IsTrue (list_all (λ name. passes (is_loadable_within world k) (class_named world name)) (superclass_names o ++ l.class.interfaces))
          → ((s : Loaded) → Contains world s → IsTrue (is_loadable_within world k s) → Climbs world s) → Climbs world l
      by_super None e all again = inl (without_superclass l there e)
      by_super (Some name) e all again =
          by_class name (class_named world name) refl e
          (and_parts (passes (is_loadable_within world k) (class_named world name)) (list_all (λ n. passes (is_loadable_within world k) (class_named world n)) l.class.interfaces) all).0 again

      by_part : IsTrue l.by_system ⊎ IsTrue (each_super world (is_loadable_within world k) l.class) →
          ((s : Loaded) → Contains world s → IsTrue (is_loadable_within world k s) → Climbs world s) → Climbs world l
      by_part (inl t) again = system_climbs l there t
      by_part (inr all) again = by_super l.class.super_class refl all again

  -- a loadable class flows to java/lang/Object
  pub loadable_to_object : (x : List ℕ) → IsTrue (passes (is_loadable world) (class_named world x)) → IsTrue (class_flows world x object_name)
  loadable_to_object x h = by_class (class_named world x) refl h
    where
      by_climb : (l : Loaded) → class_named world x ≡ Some l → IsTrue (is_loadable world l) → Climbs world l → IsTrue (class_flows world x object_name)
      by_climb l e t (inl named) = subst (λ n. IsTrue (class_flows world x n)) (sym (has_name world x l e) ∙ named) (flows_to_itself world x)
      by_climb l e t (inr found) =
          flows_to_superclass world x object_name (record {
            from = l;
            to = found.1;
            found = e;
            loadable = t;
            on_chain = way_to_superclass world l.class found.1 found.0 found.2;
            named = found.3;
          })

      by_class : (o : Option Loaded) → class_named world x ≡ o → IsTrue (passes (is_loadable world) o) → IsTrue (class_flows world x object_name)
      by_class None e t = absurd cc
      by_class (Some l) e t = by_climb l e t (climbs (length world) l (named_stands world x l e) t)

  -- ---- interfaces

  -- an interface has java/lang/Object alone above it
  pub above_interface : (x y : List ℕ) → IsTrue (names_interface world x) → IsSuperclassOf world x y → y ≡ object_name
  above_interface x y i h =
      let found = interface_found x i in
      let same : found.0 ≡ h.from = same_some found.0 h.from (sym found.1 ∙ h.found) in
      let way = superclass_by_way world h.from.class h.to h.on_chain in
      sym h.named ∙ only_object h.from (named_stands world x h.from h.found) (subst (λ (l : Loaded). IsTrue (is_interface l)) same found.3) way.0 h.to way.1
    where
      names_object : (o : Option (List ℕ)) → IsTrue (some_and is_object o) → o ≡ Some object_name
      names_object None h = absurd cc
      names_object (Some name) h = ap (λ n. Some n) (same_name name object_name h)

      by_kind : (l : Loaded) (b : Bool) → is_interface l ≡ b → IsTrue b →
          IsTrue (if b then some_and is_object l.class.super_class else is_some l.class.super_class || is_object l.class.name) → l.class.super_class ≡
          Some object_name
      by_kind l true e t k = names_object l.class.super_class k
      by_kind l false e t k = absurd cc

      to_object : (l s : Loaded) → Contains world l → IsTrue (is_interface l) → superclass_in world l.class ≡ Some s → class_named world object_name ≡ Some s
      to_object l s there t e = sym (ap (class_if_named world) (by_kind l (is_interface l) refl t (rooted.superclass l there))) ∙ e

      only_object : (l : Loaded) → Contains world l → IsTrue (is_interface l) → (between : List Loaded) (to : Loaded) → IsUp world l.class between to → to.class.name ≡ object_name
      only_object l there t [] to way = has_name world object_name to (to_object l to there t way)
      only_object l there t (by ∷ more) to way = absurd (no_way more (object_parts by (to_object l by there t way.0)).1 way.1)
        where
          no_way : (ls : List Loaded) → by.class.super_class ≡ None → IsUp world by.class ls to → ⊥
          no_way [] e w = nothing (sym (ap (class_if_named world) e) ∙ w)
            where
              nothing : None ≡ Some to → ⊥
              nothing f = cc
          no_way (m ∷ ms) e w = nothing (sym (ap (class_if_named world) e) ∙ w.0)
            where
              nothing : None ≡ Some m → ⊥
              nothing f = cc

  -- ---- names erased

  -- an erased name is java/lang/Object's, or the name of no interface
  pub by_erased : (P : List ℕ → Type 0) (y : List ℕ) → (IsTrue (names_interface world y) → P object_name) → ((IsTrue (names_interface world y) → ⊥) → P y) → P (erased_name world y)
  by_erased P y if_interface if_not = by_test (names_interface world y) refl
    where
      by_test : (b : Bool) → names_interface world y ≡ b → P (if b then object_name else y)
      by_test true e = if_interface e
      by_test false e = if_not (λ h. unlike (sym h ∙ e))

  pub erased_is_plain : (y : List ℕ) → IsTrue (names_interface world (erased_name world y)) → ⊥
  erased_is_plain y = by_erased (λ n. IsTrue (names_interface world n) → ⊥) y (λ i. object_is_plain) (λ plain. plain)

  erased_object : erased_name world object_name ≡ object_name
  erased_object = by_erased (λ n. n ≡ object_name) object_name (λ i. refl) (λ plain. refl)

  pub erased_to_object : (x : List ℕ) → IsTrue (passes (is_loadable world) (class_named world x)) → IsTrue (class_flows world (erased_name world x) object_name)
  erased_to_object x h = by_erased (λ n. IsTrue (class_flows world n object_name)) x (λ i. flows_to_itself world object_name) (λ plain. loadable_to_object x h)

  -- the order of erased names goes on
  pub erased_flows_on : (x y z : List ℕ) → IsTrue (class_flows world (erased_name world x) (erased_name world y)) → IsTrue (class_flows world (erased_name world y) (erased_name world z))
      → IsTrue (class_flows world (erased_name world x) (erased_name world z))
  erased_flows_on x y z h k = class_flows_on world (erased_name world x) (erased_name world y) (erased_name world z) (erased_is_plain y) h k

  -- a loadable class that is below another is below each that the other flows to
  pub erased_kept : (w x y : List ℕ) → IsTrue (passes (is_loadable world) (class_named world w)) →
      IsTrue (class_flows world (erased_name world w) (erased_name world x)) → IsTrue (class_flows world x y)
      → IsTrue (class_flows world (erased_name world w) (erased_name world y))
  erased_kept w x y loadable h k = by_case (flow_cases world x y k)
    where
      top : IsUnder world w object_name
      top = erased_to_object w loadable

      above_plain : (IsTrue (names_interface world x) → ⊥) → IsUnder world w x → IsUnder world w y
      above_plain plain g = class_flows_on world (erased_name world w) x y plain g k

      by_case : (x ≡ y) ⊎ (IsTrue (names_interface world y) ⊎ IsSuperclassOf world x y) → IsUnder world w (erased_name world y)
      by_case (inl e) = subst (λ n. IsUnder world w (erased_name world n)) e h
      by_case (inr (inl i)) = by_erased (IsUnder world w) y (λ j. top) (λ plain. absurd (plain i))
      by_case (inr (inr f)) =
          by_erased (IsUnder world w) y (λ j. top) (λ other.
          by_erased (λ n. IsUnder world w n → IsUnder world w y) x (λ i g. subst (IsUnder world w) (sym (above_interface x y i f)) top) (λ plain g. above_plain plain g) h)

  -- ---- the classes above arrays

  arrays_cases : (y : List ℕ) → IsTrue (is_above_arrays y) → (y ≡ object_name) ⊎ IsTrue (names_interface world y)
  arrays_cases y h = by_first (or_cases (bytes_eq y object_name) (bytes_eq y (codes "java/lang/Cloneable") || bytes_eq y (codes "java/io/Serializable")) h)
    where
      by_second : (bytes_eq y (codes "java/lang/Cloneable") ≡ true) ⊎ (bytes_eq y (codes "java/io/Serializable") ≡ true) → (y ≡ object_name) ⊎ IsTrue (names_interface world y)
      by_second (inl e) = inr (subst (λ n. IsTrue (names_interface world n)) (sym (same_name y (codes "java/lang/Cloneable") e)) rooted.cloneable)
      by_second (inr e) = inr (subst (λ n. IsTrue (names_interface world n)) (sym (same_name y (codes "java/io/Serializable") e)) rooted.serializable)

      by_first : (bytes_eq y object_name ≡ true) ⊎ ((bytes_eq y (codes "java/lang/Cloneable") || bytes_eq y (codes "java/io/Serializable")) ≡ true) →
          (y ≡ object_name) ⊎ IsTrue (names_interface world y)
      by_first (inl e) = inl (same_name y object_name e)
      by_first (inr e) = by_second (or_cases (bytes_eq y (codes "java/lang/Cloneable")) (bytes_eq y (codes "java/io/Serializable")) e)

  object_above_arrays : IsTrue (is_above_arrays object_name)
  object_above_arrays = refl

  pub arrays_erased : (y : List ℕ) → IsTrue (is_above_arrays y) → IsTrue (is_above_arrays (erased_name world y))
  arrays_erased y h = by_erased (λ n. IsTrue (is_above_arrays n)) y (λ i. object_above_arrays) (λ plain. h)

  -- of those that are no interface it is java/lang/Object alone
  pub plain_arrays : (y : List ℕ) → (IsTrue (names_interface world y) → ⊥) → IsTrue (is_above_arrays y) → y ≡ object_name
  plain_arrays y plain h = by_case (arrays_cases y h)
    where
      by_case : (y ≡ object_name) ⊎ IsTrue (names_interface world y) → y ≡ object_name
      by_case (inl e) = e
      by_case (inr i) = absurd (plain i)

  pub erased_arrays_on : (y z : List ℕ) → IsTrue (is_above_arrays (erased_name world y)) →
      IsTrue (class_flows world (erased_name world y) (erased_name world z)) → IsTrue (is_above_arrays (erased_name world z))
  erased_arrays_on y z h k = by_case (flow_cases world (erased_name world y) (erased_name world z) k)
    where
      is_top : erased_name world y ≡ object_name
      is_top = plain_arrays (erased_name world y) (erased_is_plain y) h

      by_case : (erased_name world y ≡ erased_name world z) ⊎
          (IsTrue (names_interface world (erased_name world z)) ⊎ IsSuperclassOf world (erased_name world y) (erased_name world z)) →
          IsTrue (is_above_arrays (erased_name world z))
      by_case (inl e) = subst (λ n. IsTrue (is_above_arrays n)) e h
      by_case (inr (inl i)) = absurd (erased_is_plain z i)
      by_case (inr (inr f)) = absurd (nothing_above_object (erased_name world z) (subst (λ n. IsSuperclassOf world n (erased_name world z)) is_top f))

  abbrev IsOverArrays : List ℕ → Type 0
  IsOverArrays n = IsTrue (is_above_arrays n)

  pub arrays_kept : (y z : List ℕ) → IsTrue (is_above_arrays (erased_name world y)) → IsTrue (class_flows world y z) → IsTrue (is_above_arrays (erased_name world z))
  arrays_kept y z h k = by_case (flow_cases world y z k)
    where
      is_top : erased_name world y ≡ object_name
      is_top = plain_arrays (erased_name world y) (erased_is_plain y) h

      above_plain : IsSuperclassOf world y z → y ≡ object_name → IsOverArrays z
      above_plain f e = absurd (nothing_above_object z (subst (λ n. IsSuperclassOf world n z) e f))

      by_case : (y ≡ z) ⊎ (IsTrue (names_interface world z) ⊎ IsSuperclassOf world y z) → IsOverArrays (erased_name world z)
      by_case (inl e) = subst (λ n. IsOverArrays (erased_name world n)) e h
      by_case (inr (inl i)) = by_erased IsOverArrays z (λ j. object_above_arrays) (λ plain. absurd (plain i))
      by_case (inr (inr f)) =
          by_erased IsOverArrays z (λ j. object_above_arrays) (λ other.
          by_erased (λ n. n ≡ object_name → IsOverArrays z) y (λ i e. subst IsOverArrays (sym (above_interface y z i f)) object_above_arrays) (λ plain e. above_plain f e) is_top)
