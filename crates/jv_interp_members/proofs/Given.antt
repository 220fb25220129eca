-- The classes that a host gives are the system's own, or held by the files of a library.
use Rattle.std.proofs.Common.{◌≡◌, ◌⊎◌, inl, inr, Bool, true, false, cond, ◌&&◌, List, [], ◌∷◌, ◌++◌, map, Option, Some, None, refl, sym, subst, ◌∙◌}
use Rattle.std.specs.Prelude.{◌==◌, ℕ, unwrap_or}
use Rattle.std.specs.List.{Contains, find}
use Rattle.std.specs.Str.{bytes_eq}
use Rattle.std.proofs.lemmas.Bool.{and_parts}
use Rattle.std.proofs.lemmas.List.Elements.{Contains-append_cases, Contains-append_left, Contains-append_right}
use Rattle.jv_class.specs.Class.{Class}
use Rattle.jv_meaning_world.specs.Library.{Lends, IsLibrary, borrowers, borrowers_more, can_lend, lent, system_with, with_methods_of}
use Rattle.jv_meaning_world.specs.System.Classes.{system_classes}
use Rattle.jv_meaning_world.specs.System.Io.{io}
use Rattle.jv_meaning_world.proofs.Up.{none, single, first, later, same_name}
use Rattle.jv_meaning_typing.proofs.Found.{split}

-- the system's classes with a library, before anything is lent to them
abbrev pub own_classes : List Class → List Class
own_classes [] = system_classes
own_classes (c ∷ more) = borrowers ++ io ∷ borrowers_more

found_can : (class : Class) (library : List Class) (by : Class) → find (can_lend class) library ≡ Some by → (can_lend class by ≡ true) × Contains library by
found_can class [] by e = absurd cc
found_can class (x ∷ library) by e = by_test (can_lend class x) refl e (λ k. found_can class library by k)
  where
    by_test : (b : Bool) → can_lend class x ≡ b → cond b (Some x) (find (can_lend class) library) ≡ Some by
        → (find (can_lend class) library ≡ Some by → (can_lend class by ≡ true) × Contains library by) → (can_lend class by ≡ true) × Contains (x ∷ library) by
    by_test true t k again =
        let same : x ≡ by = cc in
        (subst (λ (y : Class). can_lend class y ≡ true) same t, subst (λ (y : Class). Contains (x ∷ library) y) same (first x library))
    by_test false t k again = let found = again k in (found.0, later x library by found.1)

in_lent : (library : List Class) (classes : List Class) (c : Class) → Contains (map (lent library) classes) c → (own : Class) × Contains classes own × (lent library own ≡ c)
in_lent library [] c h = absurd (none c h)
in_lent library (x ∷ classes) c h =
    elim (split (lent library x) (map (lent library) classes) c h) [
      | inl is ↦ (x, first x classes, is)
      | inr k ↦ let found = in_lent library classes c k in (found.0, later x classes found.0 found.1, found.2)
    ]

module _ (files : List (List ℕ)) (library : List Class) (gives : IsLibrary files library) where
  lent_is : (class : Class) → Contains (borrowers ++ borrowers_more) class → (lent library class ≡ class) ⊎ Contains library (lent library class)
  lent_is class among = by_found (find (can_lend class) library) refl
    where
      by_found :
          (o : Option Class) → find (can_lend class) library ≡ o
          → (with_methods_of (unwrap_or o class) class ≡ class) ⊎ Contains library (with_methods_of (unwrap_or o class) class)
      by_found None e = inl refl
      by_found (Some by) e =
          let found = found_can class library by e in
          let name : by.name ≡ class.name =
          same_name by.name class.name (and_parts (bytes_eq by.name class.name) (by.access_flags == class.access_flags) found.0).0 in
          let lends : Lends class by = gives.lends class by among found.1 name in
          inr (subst (λ (c : Class). Contains library c) lends.same found.1)

  among : (classes : List Class) → ((c : Class) → Contains classes c → Contains (borrowers ++ borrowers_more) c) → (c : Class)
      → Contains (map (lent library) classes) c → Contains classes c ⊎ Contains library c
  among classes within c h =
      let own = in_lent library classes c h in
      elim (lent_is own.0 (within own.0 own.1)) [
        | inl same ↦ inl (subst (λ (x : Class). Contains classes x) (sym same ∙ own.2) own.1)
        | inr there ↦ inr (subst (λ (x : Class). Contains library x) own.2 there)
      ]

pub own_or_given : (files : List (List ℕ)) (library : List Class) → IsLibrary files library → (c : Class) → Contains (system_with library) c
    → Contains (own_classes library) c ⊎ Contains library c
own_or_given files [] gives c h = inl h
own_or_given files (x ∷ more) gives c h =
    elim (Contains-append_cases (map (lent (x ∷ more)) borrowers) (io ∷ map (lent (x ∷ more)) borrowers_more) c h) [
      | inl k ↦
          elim (among files (x ∷ more) gives borrowers (λ b j. Contains-append_left borrowers borrowers_more b j) c k) [
            | inl j ↦ inl (Contains-append_left borrowers (io ∷ borrowers_more) c j)
            | inr j ↦ inr j
          ]
      | inr k ↦
          elim (split io (map (lent (x ∷ more)) borrowers_more) c k) [
            | inl is ↦ inl (Contains-append_right borrowers (io ∷ borrowers_more) c (subst (λ (y : Class). Contains (io ∷ borrowers_more) y) is (first io borrowers_more)))
            | inr j ↦
                elim (among files (x ∷ more) gives borrowers_more (λ b m. Contains-append_right borrowers borrowers_more b m) c j) [
                  | inl m ↦ inl (Contains-append_right borrowers (io ∷ borrowers_more) c (later io borrowers_more c m))
                  | inr m ↦ inr m
                ]
          ]
    ]
