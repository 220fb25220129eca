-- What a search meets is the class where it began, or stands above it; so do the superclasses.
use Rattle.std.proofs.Common.{◌≡◌, ℕ, zero, suc, Bool, true, false, List, [], ◌∷◌, ◌++◌, length, Option, Some, None, refl, sym, subst, inl, inr}
use Rattle.std.specs.Prelude.{◌⊎◌, filter, if◌then◌else◌}
use Rattle.std.specs.List.{Contains, filter_map, fold}
use Rattle.std.proofs.lemmas.List.Elements.{Contains-append_left, Contains-append_right, Contains-append_cases}
use Rattle.jv_class.specs.Class.{Class}
use Rattle.jv_meaning_world.specs.World.{Loaded, World, class_named}
use Rattle.jv_meaning_world.specs.Above.{superclass_names, super_names, supers_in, above, class_if_named, superclass_in, chain_within, superclasses}
use Rattle.jv_meaning_world.specs.Verdicts.{is_interface}
use Rattle.jv_meaning_world.specs.LookUps.{is_among, next_in, searched_within, searched_from}
use Rattle.jv_meaning_world.specs.Laws.Above.{AboveByWays, AboveIsTransitive}
use Rattle.jv_meaning_typing.specs.InitializationOrder.{interfaces_in, given_within, enumerated, declares_default, init_order}
use Rattle.jv_meaning_typing.specs.LinkingLaws.{IsAtOrAbove}
use Rattle.jv_meaning_world.proofs.Up.{none, single, first, later}
use Rattle.jv_meaning_typing.proofs.Found.{split, in_filter, in_found, found_in}

-- what holds of each class of a list
abbrev pub AllOf : (Loaded → Type 0) → List Loaded → Type 0
AllOf P ls = (c : Loaded) → Contains ls c → P c

module _ (P : Loaded → Type 0) where
  pub of_joined : (ls : List Loaded) (l : Loaded) → AllOf P ls → P l → AllOf P (ls ++ l ∷ [])
  of_joined ls l all here c h = by_part (Contains-append_cases ls (l ∷ []) c h)
    where
      by_part : Contains ls c ⊎ Contains (l ∷ []) c → P c
      by_part (inl k) = all c k
      by_part (inr k) = subst P (single l c k) here

  pub of_fold : (step : List Loaded → Loaded → List Loaded) → ((ls : List Loaded) (l : Loaded) → AllOf P ls → P l → AllOf P (step ls l))
      → (given more : List Loaded) → AllOf P given → AllOf P more → AllOf P (fold step given more)
  of_fold step keeps given [] all rest = all
  of_fold step keeps given (l ∷ more) all rest = of_fold step keeps (step given l) more (keeps given l all (rest l (first l more))) (λ c h. rest c (later l more c h))

-- a class's superclass is one of its supers
pub superclass_is_super : (world : World) (class : Class) (s : Loaded) → superclass_in world class ≡ Some s → Contains (supers_in world class) s
superclass_is_super world class s e = by_name class.super_class refl e
  where
    by_name : (o : Option (List ℕ)) → class.super_class ≡ o → class_if_named world o ≡ Some s → Contains (supers_in world class) s
    by_name None f e = absurd cc
    by_name (Some name) f e =
        found_in (class_named world) (super_names class) name s
        (Contains-append_left (superclass_names class.super_class) class.interfaces name (subst (λ o. Contains (superclass_names o) name) (sym f) (first name []))) e

-- ---- a search

module _ (world : World) (P : Loaded → Type 0) (up : (l s : Loaded) → P l → Contains (supers_in world l.class) s → P s) where
  turned : (class : Class) (s : Loaded) → Contains (next_in world class) s → Contains (supers_in world class) s
  turned class s h =
      let found = in_found (class_named world) (class.interfaces ++ superclass_names class.super_class) s h in
      found_in (class_named world) (super_names class) found.0 s (by_part found.0 (Contains-append_cases class.interfaces (superclass_names class.super_class) found.0 found.1)) found.2
    where
      by_part : (name : List ℕ) → Contains class.interfaces name ⊎ Contains (superclass_names class.super_class) name → Contains (super_names class) name
      by_part name (inl k) = Contains-append_right (superclass_names class.super_class) class.interfaces name k
      by_part name (inr k) = Contains-append_left (superclass_names class.super_class) class.interfaces name k

  of_search : (k : ℕ) (begun : List Loaded) (l : Loaded) → AllOf P begun → P l → AllOf P (searched_within world k begun l)
  of_search zero begun l all here = all
  of_search (suc k) begun l all here = by_test (is_among begun l) (λ ls m h i. of_search k ls m h i)
    where
      by_test : (b : Bool) → ((ls : List Loaded) (m : Loaded) → AllOf P ls → P m → AllOf P (searched_within world k ls m))
          → AllOf P (if b then begun else fold (searched_within world k) (begun ++ l ∷ []) (next_in world l.class))
      by_test true again = all
      by_test false again =
          of_fold P (searched_within world k) again (begun ++ l ∷ []) (next_in world l.class) (of_joined P begun l all here)
          (λ s h. up l s here (turned l.class s h))

  pub of_searched : (l : Loaded) → P l → AllOf P (searched_from world l)
  of_searched l here = of_search (suc (length world)) [] l (λ c h. absurd (none c h)) here

  -- ---- superclasses

  pub of_chain : (k : ℕ) (o : Option Loaded) → ((s : Loaded) → o ≡ Some s → P s) → AllOf P (chain_within world k o)
  of_chain zero o here c h = absurd (none c h)
  of_chain (suc k) None here c h = absurd (none c h)
  of_chain (suc k) (Some l) here c h =
      by_part (λ j. of_chain k (superclass_in world l.class) (λ s e. up l s (here l refl) (superclass_is_super world l.class s e)) c j)
      (split l (chain_within world k (superclass_in world l.class)) c h)
    where
      by_part : (Contains (chain_within world k (superclass_in world l.class)) c → P c) → (l ≡ c) ⊎ Contains (chain_within world k (superclass_in world l.class)) c → P c
      by_part again (inl e) = subst P e (here l refl)
      by_part again (inr j) = again j

  pub of_superclasses : (class : Class) → ((s : Loaded) → Contains (supers_in world class) s → P s) → AllOf P (superclasses world class)
  of_superclasses class here = of_chain (length world) (superclass_in world class) (λ s e. here s (superclass_is_super world class s e))

-- ---- what is given behind a class

module _ (world : World) (P : Loaded → Type 0) (up : (l s : Loaded) → P l → Contains (interfaces_in world l.class) s → P s) where
  pub of_given : (k : ℕ) (given : List Loaded) (l : Loaded) → AllOf P given → P l → AllOf P (given_within world k given l)
  of_given zero given l all here = all
  of_given (suc k) given l all here = by_test (is_among given l) (λ ls m h i. of_given k ls m h i)
    where
      by_test : (b : Bool) → ((ls : List Loaded) (m : Loaded) → AllOf P ls → P m → AllOf P (given_within world k ls m))
          → AllOf P (if b then given else fold (given_within world k) given (interfaces_in world l.class) ++ l ∷ [])
      by_test true again = all
      by_test false again =
          of_joined P (fold (given_within world k) given (interfaces_in world l.class)) l
          (of_fold P (given_within world k) again given (interfaces_in world l.class) all (λ s h. up l s here h)) here

-- ---- above

module _ (ways : AboveByWays) (above_above : AboveIsTransitive) (world : World) where
  pub direct : (class : Class) (s : Loaded) → Contains (supers_in world class) s → Contains (above world class) s
  direct class s h = (ways world class s).1 ([], h)

  higher : (l by s : Loaded) → IsAtOrAbove world l by → Contains (supers_in world by.class) s → IsAtOrAbove world l s
  higher l by s (inl e) h = inr (direct l.class s (subst (λ (m : Loaded). Contains (supers_in world m.class) s) e h))
  higher l by s (inr k) h = inr (above_above world l.class by s k (direct by.class s h))

  pub searched_is_above : (l : Loaded) → AllOf (IsAtOrAbove world l) (searched_from world l)
  searched_is_above l = of_searched world (IsAtOrAbove world l) (λ by s k h. higher l by s k h) l (inl refl)

  pub superclass_is_above : (class : Class) → AllOf (λ s. Contains (above world class) s) (superclasses world class)
  superclass_is_above class =
      of_superclasses world (λ s. Contains (above world class) s) (λ by s k h. above_above world class by s k (direct by.class s h)) class (λ s h. direct class s h)

  -- ---- what is initialized before a class

  named_above : (class : Class) (names : List (List ℕ)) → ((name : List ℕ) → Contains names name → Contains (super_names class) name) →
      AllOf (λ s. Contains (above world class) s) (filter_map (class_named world) names)
  named_above class names sub s h =
      let found = in_found (class_named world) names s h in
      direct class s (found_in (class_named world) (super_names class) found.0 s (sub found.0 found.1) found.2)

  pub interfaces_above : (class : Class) → AllOf (λ s. Contains (above world class) s) (interfaces_in world class)
  interfaces_above class = named_above class class.interfaces (λ name h. Contains-append_right (superclass_names class.super_class) class.interfaces name h)

  pub init_order_is_above : (l : Loaded) → AllOf (λ s. Contains (above world l.class) s) (init_order world l)
  init_order_is_above l s h = by_kind (is_interface l) h
    where
      from_enumerated : Contains (filter declares_default (enumerated world l.class)) s → Contains (above world l.class) s
      from_enumerated h =
          of_fold (λ c. Contains (above world l.class) c) (given_within world (length world))
          (of_given world (λ c. Contains (above world l.class) c)
          (λ by t here i. above_above world l.class by t here (interfaces_above by.class t i)) (length world)) [] (interfaces_in world l.class)
          (λ c k. absurd (none c k)) (interfaces_above l.class) s (in_filter declares_default (enumerated world l.class) s h).0

      by_part : Contains (filter_map (class_named world) (superclass_names l.class.super_class)) s ⊎ Contains (filter declares_default (enumerated world l.class)) s → Contains (above world l.class) s
      by_part (inl k) = named_above l.class (superclass_names l.class.super_class) (λ name j. Contains-append_left (superclass_names l.class.super_class) l.class.interfaces name j) s k
      by_part (inr k) = from_enumerated k

      by_kind : (b : Bool) → Contains (if b then [] else filter_map (class_named world) (superclass_names l.class.super_class) ++
          filter declares_default (enumerated world l.class)) s → Contains (above world l.class) s
      by_kind true h = absurd (none s h)
      by_kind false h = by_part (Contains-append_cases (filter_map (class_named world) (superclass_names l.class.super_class)) (filter declares_default (enumerated world l.class)) s h)
