-- The names of a world: of the classes that a host with a library gives no two are alike, and no class has the name of an array (JVMS 4.1).
use Rattle.std.proofs.Common.{◌≡◌, ℕ, Bool, true, false, true≢false, ◌&&◌, ◌||◌, not, List, [], ◌∷◌, ◌++◌, map, Option, Some, None, refl, sym, ap, ◌∙◌, subst, inl, inr, append_assoc, append-nil}
use Rattle.std.specs.Prelude.{◌⊎◌, IsTrue, if◌then◌else◌}
use Rattle.std.specs.List.{Contains, list_all, list_any}
use Rattle.std.specs.Option.{IsSomeAnd}
use Rattle.std.specs.Str.{bytes_eq}
use Rattle.std.specs.Cmp.Lexicographic.{nat_list_eq_equiv}
use Rattle.std.proofs.lemmas.Bool.{and_parts, and_from, or_parts, or_from}
use Rattle.std.proofs.lemmas.List.{map-append}
use Rattle.std.proofs.lemmas.List.Folds.{list_any-append}
use Rattle.std.proofs.lemmas.List.Elements.{Contains-append_cases}
use Rattle.jv_pool.specs.Constants.{class_name_at}
use Rattle.jv_format.specs.Format.{◌>>=◌}
use Rattle.jv_class_structure.specs.Structure.{ClassStructure}
use Rattle.jv_class.specs.Class.{Class, class_of, super_of, all_found, field_of, method_of}
use Rattle.jv_class.specs.ClassFile.{class_name}
use Rattle.jv_class.specs.Rules.{is_no_array_name, KeepsRulesAsName, ItselfKeepsRules}
use Rattle.jv_meaning_world.specs.FileContent.{FileContent, IsContent, AreContents}
use Rattle.jv_meaning_world.specs.declared.content.Content.TheVariants.{OtherVersion, NoClassFile, MoreThanProfile, Holds}
use Rattle.jv_meaning_world.specs.World.{Loaded, World, class_named, loaded, is_reserved, has_class, with_class_of, joined_all, classes_in, world_of}
use Rattle.jv_meaning_world.specs.Library.{IsLibrary, front_of, system_with, with_class_more, with_library}
use Rattle.jv_meaning_world.proofs.Up.{none, single, first, later}
use Rattle.jv_meaning_world.proofs.OrderChains.{any_made, all_at}
use Rattle.jv_meaning_world.proofs.OrderWorlds.{in_mapped, in_library, to_held}
use Rattle.jv_meaning_typing.proofs.Found.{split}

-- ---- names that differ

abbrev pub has_name : World → List ℕ → Bool
has_name ls name = list_any (λ l. bytes_eq l.class.name name) ls

abbrev pub differ : World → Bool
differ [] = true
differ (l ∷ ls) = not (has_name ls l.class.name) && differ ls

opposite : (b : Bool) → IsTrue (not b) → b ≡ false
opposite false h = refl
opposite true h = absurd cc

other_way : (a b : List ℕ) → bytes_eq a b ≡ false → bytes_eq b a ≡ false
other_way a b e = nat_list_eq_equiv.symm b a ∙ e

pub named_itself : (ls : World) → IsTrue (differ ls) → (l : Loaded) → Contains ls l → class_named ls l.class.name ≡ Some l
named_itself [] d l h = absurd (none l h)
named_itself (x ∷ ls) d l h =
    let parts = and_parts (not (has_name ls x.class.name)) (differ ls) d in
    by_part (opposite (has_name ls x.class.name) parts.0) (λ k. named_itself ls parts.1 l k) (split x ls l h)
  where
    by_part : has_name ls x.class.name ≡ false → (Contains ls l → class_named ls l.class.name ≡ Some l) → (x ≡ l) ⊎ Contains ls l
        → class_named (x ∷ ls) l.class.name ≡ Some l
    by_part new again (inl e) =
        ap (λ b. if b then Some x else class_named ls l.class.name)
        (ap (λ (y : Loaded). bytes_eq y.class.name l.class.name) e ∙ nat_list_eq_equiv.refl l.class.name) ∙ ap (λ y. Some y) e
    by_part new again (inr k) = by_test (bytes_eq x.class.name l.class.name) refl
      where
        by_test : (b : Bool) → bytes_eq x.class.name l.class.name ≡ b → (if b then Some x else class_named ls l.class.name) ≡ Some l
        by_test true e =
            let there = any_made (λ (y : Loaded). bytes_eq y.class.name x.class.name) ls l k (nat_list_eq_equiv.symm l.class.name x.class.name ∙ e) in
            absurd (true≢false (sym there ∙ new))
        by_test false e = again k

differ_more : (ls : World) (l : Loaded) → IsTrue (differ ls) → has_name ls l.class.name ≡ false → IsTrue (differ (ls ++ l ∷ []))
differ_more [] l d new = refl
differ_more (x ∷ ls) l d new =
    let parts = and_parts (not (has_name ls x.class.name)) (differ ls) d in
    let news = or_parts (bytes_eq x.class.name l.class.name) (has_name ls l.class.name) new in
    and_from (not (has_name (ls ++ l ∷ []) x.class.name)) (differ (ls ++ l ∷ []))
    (ap not (list_any-append (λ (y : Loaded). bytes_eq y.class.name x.class.name) ls (l ∷ [])
    ∙ or_from (has_name ls x.class.name) (has_name (l ∷ []) x.class.name) (opposite (has_name ls x.class.name) parts.0)
    (or_from (bytes_eq l.class.name x.class.name) false (other_way x.class.name l.class.name news.0) refl)))
    (differ_more ls l parts.1 news.1)

pub has_loaded : (by_system : Bool) (cs : List Class) (name : List ℕ) → has_name (map (loaded by_system) cs) name ≡ has_class cs name
has_loaded by_system [] name = refl
has_loaded by_system (c ∷ cs) name = ap (λ b. bytes_eq c.name name || b) (has_loaded by_system cs name)

-- ---- those that a host gives

abbrev of_host : List Class → List Class → World
of_host system front = map (loaded true) system ++ map (loaded false) front

system_differs : (library : List Class) → IsTrue (differ (map (loaded true) (system_with library)))
system_differs [] = refl
system_differs (c ∷ more) = refl

module _ (library : List Class) where
  one_front : (front : List Class) (c : Class) → IsTrue (differ (of_host (system_with library) front)) → IsTrue (differ (of_host (system_with library) (with_class_more library front c)))
  one_front front c d = by_test (has_class (system_with library) c.name) (has_class front c.name) refl refl
    where
      joined : of_host (system_with library) front ++ loaded false c ∷ [] ≡ of_host (system_with library) (front ++ c ∷ [])
      joined =
          append_assoc (map (loaded true) (system_with library)) (map (loaded false) front) (loaded false c ∷ [])
          ∙ ap (λ ls. map (loaded true) (system_with library) ++ ls) (sym (map-append (loaded false) front (c ∷ [])))

      by_test : (a b : Bool) → has_class (system_with library) c.name ≡ a → has_class front c.name ≡ b
          → IsTrue (differ (of_host (system_with library) (if a || b then front else front ++ c ∷ [])))
      by_test true b e f = d
      by_test false true e f = d
      by_test false false e f =
          subst (λ ls. IsTrue (differ ls)) joined
          (differ_more (of_host (system_with library) front) (loaded false c) d
          (list_any-append (λ (l : Loaded). bytes_eq l.class.name c.name) (map (loaded true) (system_with library)) (map (loaded false) front)
          ∙ or_from (has_name (map (loaded true) (system_with library)) c.name) (has_name (map (loaded false) front) c.name)
          (has_loaded true (system_with library) c.name ∙ e) (has_loaded false front c.name ∙ f)))

  all_front : (front classes : List Class) → IsTrue (differ (of_host (system_with library) front)) → IsTrue (differ (of_host (system_with library) (front_of library front classes)))
  all_front front [] d = d
  all_front front (c ∷ classes) d = all_front (with_class_more library front c) classes (one_front front c d)

  pub given_differ : IsTrue (differ (world_of (with_library library) []))
  given_differ =
      all_front [] library (subst (λ ls. IsTrue (differ ls)) (sym (append-nil (map (loaded true) (system_with library)))) (system_differs library))

-- ---- no arrays

chained : {A B : Type 0} (o : Option A) (f : A → Option B) (y : B) → (o >>= f) ≡ Some y → (a : A) × (o ≡ Some a) × (f a ≡ Some y)
chained None f y e = absurd cc
chained (Some a) f y e = (a, refl, e)

name_is : (c : ClassStructure) (class : Class) → class_of c ≡ Some class → class_name c ≡ Some class.name
name_is c class e =
    let name = chained (class_name c) _ class e in
    let above = chained (super_of c) _ class name.2 in
    let interfaces = chained (all_found (class_name_at c.constant_pool) c.interfaces) _ class above.2 in
    let fields = chained (all_found (field_of c.constant_pool) c.fields) _ class interfaces.2 in
    let methods = chained (all_found (method_of c.constant_pool) c.methods) _ class fields.2 in
    name.1 ∙ ap (λ l. Some l) cc

structure_plain : (c : ClassStructure) (class : Class) → ItselfKeepsRules c → class_of c ≡ Some class → IsTrue (is_no_array_name class.name)
structure_plain c class rules e =
    let named : KeepsRulesAsName c.constant_pool c.super_class class.name = subst (λ o. IsSomeAnd o (KeepsRulesAsName c.constant_pool c.super_class)) (name_is c class e) rules.named in
    named.no_array

held_plain : (files : List (List ℕ)) (contents : List FileContent) → AreContents files contents → (class : Class) → Contains contents (Holds class) → IsTrue (is_no_array_name class.name)
held_plain [] [] are class k = absurd (none (Holds class) k)
held_plain [] (file ∷ contents) are class k = absurd are
held_plain (bytes ∷ files) [] are class k = absurd are
held_plain (bytes ∷ files) (file ∷ contents) are class k = by_part (λ j. held_plain files contents are.1 class j) (split file contents (Holds class) k)
  where
    by_part : (Contains contents (Holds class) → IsTrue (is_no_array_name class.name)) → (file ≡ Holds class) ⊎ Contains contents (Holds class) → IsTrue (is_no_array_name class.name)
    by_part again (inl e) =
        let h : IsContent bytes (Holds class) = subst (IsContent bytes) e are.0 in
        structure_plain h.0 class h.1.well_formed.rules.itself h.2.named
    by_part again (inr there) = again there

-- the classes of a guest are held by its files
one_from : (classes : List Class) (file : FileContent) (files : List FileContent) (class : Class) → Contains (with_class_of classes file) class →
    Contains classes class ⊎ Contains (file ∷ files) (Holds class)
one_from classes OtherVersion files class k = inl k
one_from classes NoClassFile files class k = inl k
one_from classes MoreThanProfile files class k = inl k
one_from classes (Holds c) files class k = by_test (is_reserved c.name || has_class classes c.name) k
  where
    by_end : Contains classes class ⊎ Contains (c ∷ []) class → Contains classes class ⊎ Contains (Holds c ∷ files) (Holds class)
    by_end (inl j) = inl j
    by_end (inr j) = inr (subst (λ x. Contains (Holds c ∷ files) (Holds x)) (single c class j) (first (Holds c) files))

    by_test : (b : Bool) → Contains (if b then classes else classes ++ c ∷ []) class → Contains classes class ⊎ Contains (Holds c ∷ files) (Holds class)
    by_test true j = inl j
    by_test false j = by_end (Contains-append_cases classes (c ∷ []) class j)

joined_from : (classes : List Class) (files : List FileContent) (class : Class) → Contains (joined_all classes files) class → Contains classes class ⊎ Contains files (Holds class)
joined_from classes [] class h = inl h
joined_from classes (file ∷ files) class h = by_part (joined_from (with_class_of classes file) files class h)
  where
    by_part : Contains (with_class_of classes file) class ⊎ Contains files (Holds class) → Contains classes class ⊎ Contains (file ∷ files) (Holds class)
    by_part (inl k) = one_from classes file files class k
    by_part (inr k) = inr (later file files (Holds class) k)

system_plain : (library : List Class) → IsTrue (list_all (λ (c : Class). is_no_array_name c.name) (system_with library))
system_plain [] = refl
system_plain (c ∷ more) = refl

pub world_plain : (given : List (List ℕ)) (library : List Class) → IsLibrary given library → (files : List (List ℕ)) (contents : List FileContent) → AreContents files contents
    → (l : Loaded) → Contains (world_of (with_library library) contents) l → IsTrue (is_no_array_name l.class.name)
world_plain given library is files contents are l h =
    by_loader (Contains-append_cases (map (loaded true) (system_with library)) (map (loaded false) (classes_in (with_library library) contents)) l h)
  where
    by_file : (c : Class) → Contains (with_library library).front c ⊎ Contains contents (Holds c) → IsTrue (is_no_array_name c.name)
    by_file c (inl k) = held_plain given (map Holds library) is.held c (to_held library c (in_library library c k))
    by_file c (inr k) = held_plain files contents are c k

    by_loader : Contains (map (loaded true) (system_with library)) l ⊎ Contains (map (loaded false) (classes_in (with_library library) contents)) l
        → IsTrue (is_no_array_name l.class.name)
    by_loader (inl k) =
        let c = in_mapped true (system_with library) l k in
        subst (λ (x : Loaded). IsTrue (is_no_array_name x.class.name)) c.2
        (all_at (λ (x : Class). is_no_array_name x.name) (system_with library) c.0 (system_plain library) c.1)
    by_loader (inr k) =
        let c = in_mapped false (classes_in (with_library library) contents) l k in
        subst (λ (x : Loaded). IsTrue (is_no_array_name x.class.name)) c.2 (by_file c.0 (joined_from (with_library library).front contents c.0 c.1))
