-- A class and the numbers of its supers.
use Rattle.std.proofs.Common.{◌≡◌, ℕ, ◌-◌, ◌<◌, List, ◌∷◌, ◌++◌, length, get_or, take, drop, map, Option, Some, None, ap, ◌∙◌, arith}
use Rattle.std.specs.Prelude.{slice_get}
use Rattle.std.proofs.lemmas.Option.{get_or_from_slice_get}
use Rattle.std.proofs.lemmas.List.{take_all}
use Rattle.jv_class.specs.Class.{Class}
use Rattle.jv_meaning_world.specs.World.{Loaded, World}
use Rattle.jv_meaning_world.specs.Above.{superclass_names}
use Rattle.jv_meaning_world.specs.Numbers.{number_named}
use Rattle.jv_classes.specs.Once.{interface_numbers, direct_numbers}

-- the class that was read at a number
pub same_class : (world classes : World) (number : ℕ) (found l : Loaded) → classes ≡ world → found ≡ get_or classes number found → slice_get world number ≡ Some l → found ≡ l
same_class world classes number found l e f at = f ∙ (ap (λ w. get_or w number found) e ∙ get_or_from_slice_get world number l found at)

pub no_superclass : (world : World) (class : Class) (numbers : List (Option ℕ)) → numbers ≡ direct_numbers world class → class.super_class ≡ None → numbers ≡ interface_numbers world class
no_superclass world class numbers e none = e ∙ ap (λ s. map (number_named world) (superclass_names s) ++ interface_numbers world class) none

a_superclass : (world : World) (class : Class) (numbers : List (Option ℕ)) (name : List ℕ) → numbers ≡ direct_numbers world class →
    class.super_class ≡ Some name → numbers ≡ number_named world name ∷ interface_numbers world class
a_superclass world class numbers name e some = e ∙ ap (λ s. map (number_named world) (superclass_names s) ++ interface_numbers world class) some

pub behind_superclass : (world : World) (class : Class) (numbers : List (Option ℕ)) (name : List ℕ) → numbers ≡ direct_numbers world class →
    class.super_class ≡ Some name → take (length numbers - 1) (drop 1 numbers) ≡ interface_numbers world class
behind_superclass world class numbers name e some =
    let rest = interface_numbers world class in
    let few : length rest < length (number_named world name ∷ rest) = omega arith in
    ap (λ (ns : List (Option ℕ)). take (length ns - 1) (drop 1 ns)) (a_superclass world class numbers name e some)
    ∙ take_all (length (number_named world name ∷ rest) - 1) rest (omega (arith, few))

pub not_empty : (world : World) (class : Class) (numbers : List (Option ℕ)) (name : List ℕ) → numbers ≡ direct_numbers world class → class.super_class ≡ Some name → length numbers < 1 → ⊥
not_empty world class numbers name e some few =
    let size = ap length (a_superclass world class numbers name e some) in
    absurd (omega (arith, size, few))
