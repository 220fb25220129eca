-- The system's classes, file by file.
use Rattle.std.proofs.Common.{◌≡◌, ℕ, zero, suc, ◌+◌, Bool, true, false, ◌||◌, ◌&&◌, List, [], ◌∷◌, ◌++◌, map, cond, inl, inr, Some, None, refl, sym, ap, ◌∙◌, subst}
use Rattle.std.specs.Prelude.{IsTrue, is_some, not, slice_get, position}
use Rattle.std.specs.List.{list_any, list_all, position_from}
use Rattle.std.specs.Str.{bytes_eq}
use Rattle.std.proofs.lemmas.Bool.{and_parts}
use Rattle.std.proofs.lemmas.Iterator.Adapters.{position_from-zero}
use Rattle.jv_class.specs.Class.{Class}
use Rattle.jv_meaning_world.specs.FileContent.{FileContent, IsContent, AreContents}
use Rattle.std.specs.Prelude.{◌⊎◌}
use Rattle.std.specs.List.{Contains}
use Rattle.std.proofs.lemmas.List.Elements.{Contains-append_cases}
use Rattle.jv_meaning_world.specs.Above.{super_names}
use Rattle.jv_meaning_world.specs.Laws.Above.{SystemStandsAlone}
use Rattle.jv_meaning_world.proofs.Up.{none, first, later, single, found_super}
use Rattle.jv_meaning_world.specs.Library.{system_with, with_library}
use Rattle.jv_meaning_world.specs.World.{Loaded, loaded, has_class, class_named, classes_in, world_of}

-- ---- nothing has a name

module _ {X : Type 0} (test : X → Bool) where
  none_from : (i : ℕ) (xs : List X) → list_any test xs ≡ false → position_from test i xs ≡ None
  none_from i [] e = refl
  none_from i (x ∷ xs) e = by_test (test x) refl e (λ h. none_from (i + 1) xs h)
    where
      by_test : (b : Bool) → test x ≡ b → (b || list_any test xs) ≡ false → (list_any test xs ≡ false → position_from test (i + 1) xs ≡ None) → position_from test i (x ∷ xs) ≡ None
      by_test true t e again = absurd cc
      by_test false t e again = (rw t refl) ∙ again e

  found_from : (i : ℕ) (xs : List X) → is_some (position_from test i xs) ≡ list_any test xs
  found_from i [] = refl
  found_from i (x ∷ xs) = by_test (test x) (found_from (i + 1) xs)
    where
      by_test : (b : Bool) → is_some (position_from test (i + 1) xs) ≡ list_any test xs → is_some (cond b (Some i) (position_from test (i + 1) xs)) ≡ (b || list_any test xs)
      by_test true again = refl
      by_test false again = again

  pub is_found : (xs : List X) → is_some (position test xs) ≡ list_any test xs
  is_found xs = ap is_some (position_from-zero test xs) ∙ found_from 0 xs

  pub no_position : (xs : List X) → list_any test xs ≡ false → position test xs ≡ None
  no_position xs e = position_from-zero test xs ∙ none_from 0 xs e

pub any_named : (by_system : Bool) (cs : List Class) (name : List ℕ) → list_any (λ (l : Loaded). bytes_eq l.class.name name) (map (loaded by_system) cs) ≡ has_class cs name
any_named by_system [] name = refl
any_named by_system (c ∷ cs) name = ap (λ b. bytes_eq c.name name || b) (any_named by_system cs name)

-- ---- names that differ, computed

unfoldable pub unlike_from : List Class → List Class → Bool
unlike_from earlier [] = true
unlike_from earlier (c ∷ more) = not (has_class earlier c.name) && unlike_from (earlier ++ c ∷ []) more

pub is_unlike : (earlier : List Class) (c : Class) (more : List Class) → IsTrue (unlike_from earlier (c ∷ more))
    → (has_class earlier c.name ≡ false) × IsTrue (unlike_from (earlier ++ c ∷ []) more)
unfolding unlike_from
is_unlike earlier c more h =
    let parts = and_parts (not (has_class earlier c.name)) (unlike_from (earlier ++ c ∷ []) more) h in
    (turned (has_class earlier c.name) parts.0, parts.1)
  where
    turned : (b : Bool) → IsTrue (not b) → b ≡ false
    turned true h = absurd cc
    turned false h = refl

-- ---- a file and what it holds

pub content_at : (bytes : List (List ℕ)) (contents : List FileContent) (k : ℕ) (b : List ℕ) → AreContents bytes contents → slice_get bytes k ≡
    Some b → (f : FileContent) × (slice_get contents k ≡ Some f) × IsContent b f
content_at [] contents k b h e = absurd (past k e)
  where
    past : (j : ℕ) → slice_get [] j ≡ Some b → ⊥
    past zero e = absurd cc
    past (suc j) e = absurd cc
content_at (x ∷ bytes) [] k b h e = absurd h
content_at (x ∷ bytes) (f ∷ contents) zero b h e = (f, refl, subst (λ y. IsContent y f) (same e) h.0)
  where
    same : Some x ≡ Some b → x ≡ b
    same e = cc
content_at (x ∷ bytes) (f ∷ contents) (suc k) b h e = content_at bytes contents k b h.1 e

-- ---- the direct supers of the system's classes are the system's

module _ {X : Type 0} where
  in_mapped : {Y : Type 0} → (f : X → Y) (xs : List X) (y : Y) → Contains (map f xs) y → (x : X) × Contains xs x × (f x ≡ y)
  in_mapped f [] y h = absurd (none y h)
  in_mapped f (x ∷ xs) y h = by_part (λ k. in_mapped f xs y k) (Contains-append_cases (f x ∷ []) (map f xs) y h)
    where
      by_part : (Contains (map f xs) y → (z : X) × Contains xs z × (f z ≡ y)) → Contains (f x ∷ []) y ⊎ Contains (map f xs) y → (z : X) × Contains (x ∷ xs) z × (f z ≡ y)
      by_part again (inl k) = (x, first x xs, single (f x) y k)
      by_part again (inr k) = let found = again k in (found.0, later x xs found.0 found.1, found.2)

  pub each_passes : (test : X → Bool) (xs : List X) (x : X) → IsTrue (list_all test xs) → Contains xs x → IsTrue (test x)
  each_passes test [] x all h = absurd (none x h)
  each_passes test (y ∷ xs) x all h =
      let parts = and_parts (test y) (list_all test xs) all in
      by_part parts.0 (λ k. each_passes test xs x parts.1 k) (Contains-append_cases (y ∷ []) xs x h)
    where
      by_part : IsTrue (test y) → (Contains xs x → IsTrue (test x)) → Contains (y ∷ []) x ⊎ Contains xs x → IsTrue (test x)
      by_part here again (inl k) = subst (λ z. IsTrue (test z)) (single y x k) here
      by_part here again (inr k) = again k

names_known : List Class → Class → Bool
names_known system c = list_all (has_class system) (super_names c)

all_known : (library : List Class) → IsTrue (list_all (names_known (system_with library)) (system_with library))
unfolding names_known
all_known [] = refl
all_known (first ∷ more) = refl

named_in_system : (classes : List Class) (guests : List Loaded) (name : List ℕ) (s : Loaded) → IsTrue (has_class classes name) →
    class_named (map (loaded true) classes ++ guests) name ≡ Some s → IsTrue s.by_system
named_in_system [] guests name s h e = absurd cc
named_in_system (c ∷ classes) guests name s h e = by_test (bytes_eq c.name name) (λ k f. named_in_system classes guests name s k f) h e
  where
    same : Some (loaded true c) ≡ Some s → loaded true c ≡ s
    same e = cc

    by_test : (b : Bool) → (IsTrue (has_class classes name) → class_named (map (loaded true) classes ++ guests) name ≡ Some s → IsTrue s.by_system) → IsTrue (b || has_class classes name)
        → cond b (Some (loaded true c)) (class_named (map (loaded true) classes ++ guests) name) ≡ Some s → IsTrue s.by_system
    by_test true again h e = subst (λ (l : Loaded). IsTrue l.by_system) (same e) refl
    by_test false again h e = again h e

pub of_system : (library guests : List Class) (l : Loaded) → Contains (map (loaded true) (system_with library) ++ map (loaded false) guests) l → IsTrue l.by_system →
    (c : Class) × Contains (system_with library) c × (loaded true c ≡ l)
of_system library guests l h t = by_part (Contains-append_cases (map (loaded true) (system_with library)) (map (loaded false) guests) l h)
  where
    unlike : IsTrue false → ⊥
    unlike f = cc

    by_part : Contains (map (loaded true) (system_with library)) l ⊎ Contains (map (loaded false) guests) l
        → (c : Class) × Contains (system_with library) c × (loaded true c ≡ l)
    by_part (inl k) = in_mapped (loaded true) (system_with library) l k
    by_part (inr k) = let found = in_mapped (loaded false) guests l k in absurd (unlike (subst (λ (m : Loaded). IsTrue m.by_system) (sym found.2) t))

pub stands_alone : (library : List Class) (files : List FileContent) → SystemStandsAlone (world_of (with_library library) files)
unfolding names_known
stands_alone library files l s h t k =
    let world = world_of (with_library library) files in
    let system = system_with library in
    let own = classes_in (with_library library) files in
    let known = of_system library own l h t in
    let found = found_super world l.class s k in
    let names = each_passes (names_known system) system known.0 (all_known library) known.1 in
    let there = each_passes (has_class system) (super_names known.0) found.0 names (subst (λ (m : Loaded). Contains (super_names m.class) found.0) (sym known.2) found.1) in
    named_in_system system (map (loaded false) own) found.0 s there found.2
