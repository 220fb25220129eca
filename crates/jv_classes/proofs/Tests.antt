-- Tests of direct supers by their numbers.
use Rattle.std.proofs.Common.{◌≡◌, ℕ, Bool, true, false, ◌&&◌, List, [], ◌∷◌, ◌++◌, map, Option, Some, None, refl, sym, ap, ◌∙◌}
use Rattle.std.specs.Prelude.{not, is_some}
use Rattle.std.specs.Option.{option_copied}
use Rattle.std.specs.Borrow.{Bor}
use Rattle.std.specs.List.{list_all}
use Rattle.jv_class.specs.Class.{Class}
use Rattle.jv_meaning_world.specs.World.{Loaded, World, class_named}
use Rattle.jv_meaning_world.specs.Above.{super_names, superclass_names}
use Rattle.jv_meaning_world.specs.Verdicts.{passes, each_super, is_interface, superclass_passes, have_right_kind}
use Rattle.jv_meaning_world.specs.Numbers.{number_named}
use Rattle.jv_classes.specs.Once.{each_once, direct_numbers}
use Rattle.jv_classes.specs.Inside.Tests.{passes_at, first_and_others}
use Rattle.jv_classes.proofs.Numbers.{number_at, numbered}
use Rattle.jv_classes.proofs.OnceEach.{all_once, all_behind}
use Rattle.std.proofs.lemmas.List.{map-append}

-- by number as by name
pub passes_named : (world : World) (test : Loaded → Bool) (name : List ℕ) → passes_at world test (number_named world name) ≡ passes test (class_named world name)
passes_named world test name = by_number (number_named world name) refl
  where
    by_class : (o : Option Loaded) → class_named world name ≡ o → number_named world name ≡ None → false ≡ passes test o
    by_class None e f = refl
    by_class (Some s) e f = absurd (clash (sym (numbered world name s e).1 ∙ f))
      where
        clash : {k : ℕ} → Some k ≡ None → ⊥
        clash g = cc

    by_number : (o : Option ℕ) → number_named world name ≡ o → passes_at world test o ≡ passes test (class_named world name)
    by_number None e = by_class (class_named world name) refl e
    by_number (Some k) e = ap (passes test) (sym (number_at world name k e))

module _ (world : World) (test : Loaded → Bool) where
  pub each_named : (names : List (List ℕ)) → list_all (passes_at world test) (map (number_named world) names) ≡ list_all (λ name. passes test (class_named world name)) names
  each_named [] = refl
  each_named (name ∷ names) = ap (λ b. b && list_all (passes_at world test) (map (number_named world) names)) (passes_named world test name) ∙
      ap (λ b. passes test (class_named world name) && b) (each_named names)

  each_listed : (names : List (List ℕ)) → list_all (passes_at world test) (each_once (map (number_named world) names)) ≡ list_all (λ name. passes test (class_named world name)) names
  each_listed names = all_once (passes_at world test) (map (number_named world) names) ∙ each_named names

  pub each_super_at : (class : Class) (numbers : List (Option ℕ)) → numbers ≡ direct_numbers world class → list_all (passes_at world test) numbers ≡ each_super world test class
  each_super_at class numbers e =
      let first = superclass_names class.super_class in
      let number = number_named world in
      ap (list_all (passes_at world test)) e
      ∙ (all_behind (passes_at world test) (map number first) (map number class.interfaces)
      ∙ (ap (list_all (passes_at world test)) (sym (map-append number first class.interfaces)) ∙ each_named (super_names class)))

kinds : World → Class → List (Option ℕ) → Option (List ℕ) → Bool
kinds world class numbers None = list_all (passes_at world is_interface) numbers
kinds world class numbers (Some name) = first_and_others (passes_at world (λ l. not (is_interface l))) (passes_at world is_interface) numbers

kind_at : (world : World) (class : Class) (superclass : Option (List ℕ)) (interfaces : List (List ℕ))
    → kinds world class (map (number_named world) (superclass_names superclass) ++ each_once (map (number_named world) interfaces)) superclass ≡
    (superclass_passes world (λ l. not (is_interface l)) superclass && list_all (λ name. passes is_interface (class_named world name)) interfaces)
unfolding kinds
kind_at world class None interfaces = each_listed world is_interface interfaces
kind_at world class (Some name) interfaces =
    ap (λ b. b && list_all (passes_at world is_interface) (each_once (map (number_named world) interfaces))) (passes_named world (λ l. not (is_interface l)) name)
    ∙ ap (λ b. passes (λ l. not (is_interface l)) (class_named world name) && b) (each_listed world is_interface interfaces)

pub no_superclass : (world : World) (class : Class) (numbers : List (Option ℕ)) → numbers ≡ direct_numbers world class → class.super_class ≡ None →
    list_all (passes_at world is_interface) numbers ≡ have_right_kind world class
unfolding kinds
no_superclass world class numbers e none = ap (list_all (passes_at world is_interface)) e ∙
    (sym (ap (kinds world class (direct_numbers world class)) none) ∙ kind_at world class class.super_class class.interfaces)

pub a_superclass : (world : World) (class : Class) (numbers : List (Option ℕ)) (name : List ℕ) → numbers ≡ direct_numbers world class → class.super_class ≡ Some name
    → first_and_others (passes_at world (λ l. not (is_interface l))) (passes_at world is_interface) numbers ≡ have_right_kind world class
unfolding kinds
a_superclass world class numbers name e some =
    ap (first_and_others (passes_at world (λ l. not (is_interface l))) (passes_at world is_interface)) e
    ∙ (sym (ap (kinds world class (direct_numbers world class)) some) ∙ kind_at world class class.super_class class.interfaces)

-- a name that is there or not
pub nothing : (o : Option (Bor (List ℕ))) (p : Option (List ℕ)) → is_some o ≡ false → option_copied o ≡ p → p ≡ None
nothing None p h e = sym e
nothing (Some x) p h e = absurd cc

pub something : (o : Option (Bor (List ℕ))) (p : Option (List ℕ)) → is_some o ≡ true → option_copied o ≡ p → (name : List ℕ) × (p ≡ Some name)
something None p h e = absurd cc
something (Some x) p h e = (x.now, sym e)
