-- What a library's classes are among: those that lend, those in front, and none of a guest's.
use Rattle.std.proofs.Common.{◌≡◌, ℕ, Bool, true, false, true≢false, cond, ◌&&◌, ◌||◌, List, [], ◌∷◌, ◌++◌, map, Option, Some, None, refl, sym, ap, ◌∙◌, subst, inl, inr, if◌then◌else◌}
use Rattle.std.specs.Prelude.{◌⊎◌, IsNone, IsTrue, codes, nat_eq, not}
use Rattle.std.specs.List.{Contains, IsDistinct, find, list_all, starts_with}
use Rattle.std.specs.Option.{unwrap_or}
use Rattle.std.specs.Str.{bytes_eq}
use Rattle.std.proofs.lemmas.List.Elements.{All-nil, Contains-append_cases}
use Rattle.jv_class.specs.Class.{Class, method_named}
use Rattle.jv_meaning_world.specs.FileContent.{FileContent}
use Rattle.jv_meaning_world.specs.declared.content.Content.TheVariants.{OtherVersion, NoClassFile, MoreThanProfile, Holds}
use Rattle.jv_meaning_world.specs.World.{has_class, is_reserved, joined_all, with_class_of}
use Rattle.jv_meaning_world.specs.Library.{can_lend, front_of, lender, system_with, with_class_more, with_library}
use Rattle.jv_meaning_world.specs.Laws.Library.{NoLibraryIsOne}
use Rattle.jv_meaning_world.proofs.Up.{none, single, first, later, same_name}

-- ---- no files are one

no_names : IsDistinct bytes_eq []
unfolding IsDistinct
no_names = tt

pub no_library_is_one : NoLibraryIsOne
no_library_is_one = record {
  held = tt;
  differ = no_names;
  none_of_host = All-nil (λ (c : Class). IsTrue (not (starts_with nat_eq c.name (codes "host/"))));
  none_is_main = All-nil (λ (c : Class). IsNone (method_named c (codes "main") (codes "([Ljava/lang/String;)V")));
  lends = λ class by borrows there same. absurd (none by there);
  string = tt;
}

-- ---- what lends to a class is the class or one of the library

found_stands : (test : Class → Bool) (library : List Class) (class : Class) → (unwrap_or (find test library) class ≡ class) ⊎ Contains library (unwrap_or (find test library) class)
found_stands test [] class = inl refl
found_stands test (x ∷ library) class = by_test (test x) (found_stands test library class)
  where
    by_test : (b : Bool) → (unwrap_or (find test library) class ≡ class) ⊎ Contains library (unwrap_or (find test library) class)
        → (unwrap_or (cond b (Some x) (find test library)) class ≡ class) ⊎ Contains (x ∷ library) (unwrap_or (cond b (Some x) (find test library)) class)
    by_test true again = inr (first x library)
    by_test false (inl e) = inl e
    by_test false (inr k) = inr (later x library (unwrap_or (find test library) class) k)

pub lender_stands : (library : List Class) (class : Class) → (lender library class ≡ class) ⊎ Contains library (lender library class)
lender_stands library class = found_stands (can_lend class) library class

-- ---- the names of the system's classes are reserved

pub system_reserved : (library : List Class) → list_all (λ (c : Class). is_reserved c.name) (system_with library) ≡ true
system_reserved [] = refl
system_reserved (c ∷ more) = refl

pub not_of_system : (cs : List Class) (name : List ℕ) → list_all (λ (c : Class). is_reserved c.name) cs ≡ true → is_reserved name ≡ false
    → has_class cs name ≡ false
not_of_system [] name all free = refl
not_of_system (c ∷ cs) name all free = by_test (bytes_eq c.name name) (is_reserved c.name) refl refl all (λ k. not_of_system cs name k free)
  where
    by_test : (a b : Bool) → bytes_eq c.name name ≡ a → is_reserved c.name ≡ b → (b && list_all (λ (c : Class). is_reserved c.name) cs) ≡ true
        → (list_all (λ (c : Class). is_reserved c.name) cs ≡ true → has_class cs name ≡ false) → (a || has_class cs name) ≡ false
    by_test a false e r k again = absurd (true≢false (sym k))
    by_test true true e r k again = absurd (true≢false (sym r ∙ (ap is_reserved (same_name c.name name e) ∙ free)))
    by_test false true e r k again = again k

-- ---- a guest's class has a free name

pub record IsFree (classes : List Class) (c : Class) : Type 0 where
  pub unreserved : is_reserved c.name ≡ false
  pub new : has_class classes c.name ≡ false

neither : (cs ds : List Class) (name : List ℕ) → has_class (cs ++ ds) name ≡ false → (has_class cs name ≡ false) × (has_class ds name ≡ false)
neither [] ds name h = (refl, h)
neither (c ∷ cs) ds name h = by_test (bytes_eq c.name name) h (λ k. neither cs ds name k)
  where
    by_test : (b : Bool) → (b || has_class (cs ++ ds) name) ≡ false
        → (has_class (cs ++ ds) name ≡ false → (has_class cs name ≡ false) × (has_class ds name ≡ false))
        → ((b || has_class cs name) ≡ false) × (has_class ds name ≡ false)
    by_test true k again = absurd (true≢false k)
    by_test false k again = again k

kept_free : (classes : List Class) (file : FileContent) (c : Class) → IsFree (with_class_of classes file) c → IsFree classes c
kept_free classes OtherVersion c h = h
kept_free classes NoClassFile c h = h
kept_free classes MoreThanProfile c h = h
kept_free classes (Holds x) c h = record { unreserved = h.unreserved; new = by_test (is_reserved x.name || has_class classes x.name) h.new }
  where
    by_test : (b : Bool) → has_class (if b then classes else classes ++ x ∷ []) c.name ≡ false → has_class classes c.name ≡ false
    by_test true k = k
    by_test false k = (neither classes (x ∷ []) c.name k).0

one_free : (classes : List Class) (file : FileContent) (c : Class) → Contains (with_class_of classes file) c → Contains classes c ⊎ IsFree classes c
one_free classes OtherVersion c h = inl h
one_free classes NoClassFile c h = inl h
one_free classes MoreThanProfile c h = inl h
one_free classes (Holds x) c h = by_test (is_reserved x.name) (has_class classes x.name) refl refl h
  where
    by_end : is_reserved x.name ≡ false → has_class classes x.name ≡ false → Contains classes c ⊎ Contains (x ∷ []) c → Contains classes c ⊎ IsFree classes c
    by_end r n (inl k) = inl k
    by_end r n (inr k) = inr (subst (λ (y : Class). IsFree classes y) (single x c k) (record { unreserved = r; new = n }))

    by_test : (a b : Bool) → is_reserved x.name ≡ a → has_class classes x.name ≡ b → Contains (if a || b then classes else classes ++ x ∷ []) c
        → Contains classes c ⊎ IsFree classes c
    by_test true b r n k = inl k
    by_test false true r n k = inl k
    by_test false false r n k = by_end r n (Contains-append_cases classes (x ∷ []) c k)

pub joined_free : (classes : List Class) (files : List FileContent) (c : Class) → Contains (joined_all classes files) c → Contains classes c ⊎ IsFree classes c
joined_free classes [] c h = inl h
joined_free classes (file ∷ files) c h = by_part (joined_free (with_class_of classes file) files c h)
  where
    by_part : Contains (with_class_of classes file) c ⊎ IsFree (with_class_of classes file) c → Contains classes c ⊎ IsFree classes c
    by_part (inl k) = one_free classes file c k
    by_part (inr k) = inr (kept_free classes file c k)

-- ---- so it is none of a library's, which are the system's by name or stand in front

module _ (library : List Class) (name : List ℕ) (free : has_class (system_with library) name ≡ false) where
  unlike : (cs : List Class) (c : Class) (rest : Bool) → has_class cs name ≡ false → has_class cs c.name ≡ true → rest ≡ false
      → (bytes_eq c.name name || rest) ≡ false
  unlike cs c rest absent there e = by_test (bytes_eq c.name name) refl
    where
      by_test : (b : Bool) → bytes_eq c.name name ≡ b → (b || rest) ≡ false
      by_test true same = absurd (true≢false (sym there ∙ (ap (has_class cs) (same_name c.name name same) ∙ absent)))
      by_test false same = e

  joined : (a b : Bool) → (a || false) ≡ false → b ≡ false → (a || b) ≡ false
  joined true b h k = absurd (true≢false h)
  joined false b h k = k

  front_has : (front classes : List Class) → has_class (front_of library front classes) name ≡ false → (has_class front name ≡ false) × (has_class classes name ≡ false)
  front_has front [] h = (h, refl)
  front_has front (c ∷ classes) h =
      let rest = front_has (with_class_more library front c) classes h in
      by_test (has_class (system_with library) c.name) (has_class front c.name) refl refl rest.0 rest.1
    where
      by_test : (a b : Bool) → has_class (system_with library) c.name ≡ a → has_class front c.name ≡ b
          → has_class (if a || b then front else front ++ c ∷ []) name ≡ false → has_class classes name ≡ false
          → (has_class front name ≡ false) × ((bytes_eq c.name name || has_class classes name) ≡ false)
      by_test true b s f k m = (k, unlike (system_with library) c (has_class classes name) free s m)
      by_test false true s f k m = (k, unlike front c (has_class classes name) k f m)
      by_test false false s f k m =
          let parts = neither front (c ∷ []) name k in
          (parts.0, joined (bytes_eq c.name name) (has_class classes name) parts.1 m)

pub not_of_library : (library : List Class) (c : Class) → IsFree (with_library library).front c → has_class library c.name ≡ false
not_of_library library c free =
    (front_has library c.name (not_of_system (system_with library) c.name (system_reserved library) free.unreserved) [] library free.new).1
