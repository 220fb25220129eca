-- The worlds of guests' files are rooted.
use Rattle.std.proofs.Common.{◌≡◌, ℕ, Bool, true, false, ◌&&◌, ◌||◌, ◌==◌, List, [], ◌∷◌, ◌++◌, map, Option, Some, None, codes, refl, ap, ◌∙◌, subst, inl, inr, if◌then◌else◌}
use Rattle.std.specs.Prelude.{◌⊎◌, IsTrue, is_some}
use Rattle.std.specs.List.{Contains, list_all}
use Rattle.std.specs.Option.{IsSomeAnd, option_map}
use Rattle.std.proofs.lemmas.Bool.{and_parts, or_right, eqb-true}
use Rattle.std.proofs.lemmas.List.Elements.{Contains-append_cases}
use Rattle.jv_format.specs.Format.{◌>>=◌}
use Rattle.jv_pool.specs.Constants.{class_name_at}
use Rattle.jv_class_structure.specs.Structure.{ClassStructure}
use Rattle.jv_class_structure.specs.Attributes.{some_and}
use Rattle.jv_class_structure.specs.Flags.{has, acc_interface}
use Rattle.jv_class.specs.Class.{Class, all_found, field_of, method_of, super_of, class_of}
use Rattle.jv_class.specs.ClassFile.{class_name}
use Rattle.jv_class.specs.Rules.{is_object, is_no_array_name, KeepsRulesAsName, ItselfKeepsRules}
use Rattle.jv_meaning_world.specs.FileContent.{FileContent, IsContent, AreContents}
use Rattle.jv_meaning_world.specs.declared.content.Content.TheVariants.{OtherVersion, NoClassFile, MoreThanProfile, Holds}
use Rattle.jv_meaning_world.specs.World.{HostClasses, Loaded, World, loaded, class_named, is_reserved, has_class, with_class_of, joined_all, classes_in, world_of}
use Rattle.jv_meaning_world.specs.Library.{IsLibrary, front_of, system_with, with_class_more, with_library}
use Rattle.jv_meaning_world.specs.Verdicts.{passes}
use Rattle.jv_meaning_world.proofs.Up.{none, single, first, later}
use Rattle.jv_meaning_world.proofs.OrderChains.{all_at}
use Rattle.jv_meaning_world.specs.Laws.Order.{object_name, names_interface, is_root, has_right_superclass, leads_to, has_right_supers, IsRooted, is_rooted_by}

-- ---- the superclass of a class that a file holds

chained : {A B : Type 0} (o : Option A) (f : A → Option B) (y : B) → (o >>= f) ≡ Some y → (a : A) × (o ≡ Some a) × (f a ≡ Some y)
chained None f y e = absurd cc
chained (Some a) f y e = (a, refl, e)

record AreParts (c : ClassStructure) (class : Class) : Type 0 where
  access_flags : c.access_flags ≡ class.access_flags
  name : class_name c ≡ Some class.name
  super_class : super_of c ≡ Some class.super_class

parts_of : (c : ClassStructure) (class : Class) → class_of c ≡ Some class → AreParts c class
parts_of c class e =
    let name = chained (class_name c) _ class e in
    let above = chained (super_of c) _ class name.2 in
    let interfaces = chained (all_found (class_name_at c.constant_pool) c.interfaces) _ class above.2 in
    let fields = chained (all_found (field_of c.constant_pool) c.fields) _ class interfaces.2 in
    let methods = chained (all_found (method_of c.constant_pool) c.methods) _ class fields.2 in
    record { access_flags = cc; name = name.1 ∙ ap (λ l. Some l) cc; super_class = above.1 ∙ ap (λ l. Some l) cc }

right_by : (interface zero named : Bool) (found above : Option (List ℕ)) → (zero ≡ true → found ≡ None) →
    IsTrue (if interface then some_and is_object found else true) → IsTrue (if named then zero else some_and is_no_array_name found)
    → (if zero then Some None else option_map Some found) ≡ Some above → IsTrue (if interface then some_and is_object above else is_some above || named)
right_by interface true named found above no_name i n e =
    by_cases interface named (subst (λ o. IsTrue (if interface then some_and is_object o else true)) (no_name refl) i)
    (subst (λ o. IsTrue (if named then true else some_and is_no_array_name o)) (no_name refl) n)
  where
    by_cases : (a b : Bool) → IsTrue (if a then some_and is_object None else true) → IsTrue (if b then true else some_and is_no_array_name None) →
        IsTrue (if a then some_and is_object above else is_some above || b)
    by_cases true b h k = absurd cc
    by_cases false true h k = or_right (is_some above) true refl
    by_cases false false h k = absurd cc
right_by interface false named None above no_name i n e = absurd cc
right_by interface false named (Some name) above no_name i n e =
    subst (λ o. IsTrue (if interface then some_and is_object o else is_some o || named)) (same e) (by_kind interface i)
  where
    same : Some (Some name) ≡ Some above → Some name ≡ above
    same f = cc

    by_kind : (a : Bool) → IsTrue (if a then some_and is_object (Some name) else true) → IsTrue (if a then some_and is_object (Some name) else is_some (Some name) || named)
    by_kind true h = h
    by_kind false h = refl

class_right : (c : ClassStructure) (class : Class) → ItselfKeepsRules c → class_of c ≡ Some class → IsTrue (has_right_superclass class)
class_right c class rules e =
    let parts = parts_of c class e in
    let named : KeepsRulesAsName c.constant_pool c.super_class class.name = subst (λ o. IsSomeAnd o (KeepsRulesAsName c.constant_pool c.super_class)) parts.name rules.named in
    subst (λ f. IsTrue (if has f acc_interface then some_and is_object class.super_class else is_some class.super_class || is_object class.name)) parts.access_flags
    (right_by (has c.access_flags acc_interface) (c.super_class == 0) (is_object class.name) (class_name_at c.constant_pool c.super_class) class.super_class
    (λ t. ap (class_name_at c.constant_pool) (eqb-true c.super_class 0 t)) rules.supers.interface_super named.superclass parts.super_class)

content_right : (bytes : List ℕ) (class : Class) → IsContent bytes (Holds class) → IsTrue (has_right_superclass class)
content_right bytes class h = class_right h.0 class h.1.well_formed.rules.itself h.2.named

held_right : (files : List (List ℕ)) (contents : List FileContent) → AreContents files contents → (class : Class) → Contains contents (Holds class) → IsTrue (has_right_superclass class)
held_right [] [] are class k = absurd (none (Holds class) k)
held_right [] (file ∷ contents) are class k = absurd are
held_right (bytes ∷ files) [] are class k = absurd are
held_right (bytes ∷ files) (file ∷ contents) are class k = by_part (λ j. held_right files contents are.1 class j) (Contains-append_cases (file ∷ []) contents (Holds class) k)
  where
    by_part : (Contains contents (Holds class) → IsTrue (has_right_superclass class)) → Contains (file ∷ []) (Holds class) ⊎ Contains contents (Holds class) → IsTrue (has_right_superclass class)
    by_part again (inl here) = content_right bytes class (subst (IsContent bytes) (single file (Holds class) here) are.0)
    by_part again (inr there) = again there

-- ---- the classes of a guest are held by its files

one_from : (classes : List Class) (file : FileContent) (files : List FileContent) (class : Class) → Contains (with_class_of classes file) class →
    Contains classes class ⊎ Contains (file ∷ files) (Holds class)
one_from classes OtherVersion files class k = inl k
one_from classes NoClassFile files class k = inl k
one_from classes MoreThanProfile files class k = inl k
one_from classes (Holds c) files class k = by_test (is_reserved c.name || has_class classes c.name) k
  where
    by_end : Contains classes class ⊎ Contains (c ∷ []) class → Contains classes class ⊎ Contains (Holds c ∷ files) (Holds class)
    by_end (inl j) = inl j
    by_end (inr j) = inr (subst (λ x. Contains (Holds c ∷ files) (Holds x)) (single c class j) (first (Holds c) files))

    by_test : (b : Bool) → Contains (if b then classes else classes ++ c ∷ []) class → Contains classes class ⊎ Contains (Holds c ∷ files) (Holds class)
    by_test true j = inl j
    by_test false j = by_end (Contains-append_cases classes (c ∷ []) class j)

joined_from : (classes : List Class) (files : List FileContent) (class : Class) → Contains (joined_all classes files) class → Contains classes class ⊎ Contains files (Holds class)
joined_from classes [] class h = inl h
joined_from classes (file ∷ files) class h = by_part (joined_from (with_class_of classes file) files class h)
  where
    by_part : Contains (with_class_of classes file) class ⊎ Contains files (Holds class) → Contains classes class ⊎ Contains (file ∷ files) (Holds class)
    by_part (inl k) = one_from classes file files class k
    by_part (inr k) = inr (later file files (Holds class) k)

guests_right : (front : List Class) (files : List (List ℕ)) (contents : List FileContent) → AreContents files contents
    → ((class : Class) → Contains front class → IsTrue (has_right_superclass class))
    → (class : Class) → Contains (joined_all front contents) class → IsTrue (has_right_superclass class)
guests_right front files contents are right class h = by_part (joined_from front contents class h)
  where
    by_part : Contains front class ⊎ Contains contents (Holds class) → IsTrue (has_right_superclass class)
    by_part (inl k) = right class k
    by_part (inr k) = held_right files contents are class k

-- ---- the world of both

pub in_mapped : (by_system : Bool) (classes : List Class) (l : Loaded) → Contains (map (loaded by_system) classes) l → (c : Class) × Contains classes c × (loaded by_system c ≡ l)
in_mapped by_system [] l h = absurd (none l h)
in_mapped by_system (c ∷ classes) l h = by_part (λ k. in_mapped by_system classes l k) (Contains-append_cases (loaded by_system c ∷ []) (map (loaded by_system) classes) l h)
  where
    by_part : (Contains (map (loaded by_system) classes) l → (x : Class) × Contains classes x × (loaded by_system x ≡ l)) →
        Contains (loaded by_system c ∷ []) l ⊎ Contains (map (loaded by_system) classes) l
        → (x : Class) × Contains (c ∷ classes) x × (loaded by_system x ≡ l)
    by_part again (inl k) = (c, first c classes, single (loaded by_system c) l k)
    by_part again (inr k) = let found = again k in (found.0, later c classes found.0 found.1, found.2)

module _ (host : HostClasses) (contents : List FileContent) where
  abbrev whole : World
  whole = world_of host contents

  abbrev own : World
  own = map (loaded false) (classes_in host contents)

  abbrev is_right : Loaded → Bool
  is_right l = leads_to whole object_name l && has_right_supers whole l.class

  abbrev HasRoot : Loaded → Type 0
  HasRoot l = IsTrue (has_right_superclass l.class) × (IsTrue l.by_system → IsTrue (is_right l))

  each_has_root : IsTrue (list_all (λ c. has_right_superclass c && is_right (loaded true c)) host.system) →
      ((class : Class) → Contains (classes_in host contents) class → IsTrue (has_right_superclass class)) → (l : Loaded) → Contains whole l → HasRoot l
  each_has_root all guests l there = by_loader (Contains-append_cases (map (loaded true) host.system) own l there)
    where
      not_so : IsTrue false → ⊥
      not_so h = cc

      by_loader : Contains (map (loaded true) host.system) l ⊎ Contains own l → HasRoot l
      by_loader (inl k) =
          let known = in_mapped true host.system l k in
          let both = and_parts (has_right_superclass known.0) (is_right (loaded true known.0)) (all_at (λ c. has_right_superclass c && is_right (loaded true c)) host.system known.0 all known.1) in
          subst HasRoot known.2 (both.0, λ t. both.1)
      by_loader (inr k) =
          let known = in_mapped false (classes_in host contents) l k in
          subst HasRoot known.2 (guests known.0 known.1, λ t. absurd (not_so t))

  -- A world of what a host gives and of what files hold, where the system's classes pass the test.
  host_is_rooted : (files : List (List ℕ)) → AreContents files contents → ((class : Class) → Contains host.front class → IsTrue (has_right_superclass class))
      → ((guests : World) → IsTrue (is_rooted_by host.system (map (loaded true) host.system ++ guests))) → IsRooted whole
  host_is_rooted files are front passes_test =
      let object = and_parts (passes is_root (class_named whole object_name)) _ (passes_test own) in
      let cloneable = and_parts (names_interface whole (codes "java/lang/Cloneable")) _ object.1 in
      let serializable = and_parts (names_interface whole (codes "java/io/Serializable")) _ cloneable.1 in
      record {
        object = λ l e. subst (λ o. IsTrue (passes is_root o)) e object.0;
        cloneable = cloneable.0;
        serializable = serializable.0;
        superclass = λ l there. (each_has_root serializable.1 (guests_right host.front files contents are front) l there).0;
        system = λ l there t. (each_has_root serializable.1 (guests_right host.front files contents are front) l there).1 t;
      }

-- ---- a library's

system_is_rooted : (library : List Class) (guests : World) → IsTrue (is_rooted_by (system_with library) (map (loaded true) (system_with library) ++ guests))
system_is_rooted [] guests = refl
system_is_rooted (first ∷ more) guests = refl

front_from : (library front classes : List Class) (c : Class) → Contains (front_of library front classes) c → Contains front c ⊎ Contains classes c
front_from library front [] c h = inl h
front_from library front (x ∷ classes) c h = by_part (front_from library (with_class_more library front x) classes c h)
  where
    by_end : Contains front c ⊎ Contains (x ∷ []) c → Contains front c ⊎ Contains (x ∷ classes) c
    by_end (inl k) = inl k
    by_end (inr k) = inr (subst (λ y. Contains (x ∷ classes) y) (single x c k) (first x classes))

    by_test : (b : Bool) → Contains (if b then front else front ++ x ∷ []) c → Contains front c ⊎ Contains (x ∷ classes) c
    by_test true k = inl k
    by_test false k = by_end (Contains-append_cases front (x ∷ []) c k)

    by_part : Contains (with_class_more library front x) c ⊎ Contains classes c → Contains front c ⊎ Contains (x ∷ classes) c
    by_part (inl k) = by_test (has_class (system_with library) x.name || has_class front x.name) k
    by_part (inr k) = inr (later x classes c k)

pub in_library : (library : List Class) (c : Class) → Contains (with_library library).front c → Contains library c
in_library library c h = by_part (front_from library [] library c h)
  where
    by_part : Contains [] c ⊎ Contains library c → Contains library c
    by_part (inl k) = absurd (none c k)
    by_part (inr k) = k

pub to_held : (classes : List Class) (c : Class) → Contains classes c → Contains (map Holds classes) (Holds c)
to_held [] c h = absurd (none c h)
to_held (x ∷ classes) c h = by_part (λ k. to_held classes c k) (Contains-append_cases (x ∷ []) classes c h)
  where
    by_part : (Contains classes c → Contains (map Holds classes) (Holds c)) → Contains (x ∷ []) c ⊎ Contains classes c → Contains (map Holds (x ∷ classes)) (Holds c)
    by_part again (inl k) = subst (λ y. Contains (map Holds (x ∷ classes)) (Holds y)) (single x c k) (first (Holds x) (map Holds classes))
    by_part again (inr k) = later (Holds x) (map Holds classes) (Holds c) (again k)

pub files_are_rooted : (given : List (List ℕ)) (library : List Class) → IsLibrary given library
    → (contents : List FileContent) (files : List (List ℕ)) → AreContents files contents → IsRooted (world_of (with_library library) contents)
files_are_rooted given library gives contents files are =
    host_is_rooted (with_library library) contents files are
    (λ class k. held_right given (map Holds library) gives.held class (to_held library class (in_library library class k)))
    (system_is_rooted library)
