-- Numbers of classes without those that stand before: a class can list a superinterface again (JVMS 4.1 forbids it nowhere),
-- and whatever asks about its supers learns nothing from the second time (own).
use Rattle.std.specs.Prelude.{ℕ, Bool, true, false, nat_eq, List, [], ◌∷◌, ◌++◌, map, Option, Some, None, if◌then◌else◌}
use Rattle.std.specs.List.{fold, list_any}
use Rattle.jv_class.specs.Class.{Class}
use Rattle.jv_meaning_world.specs.World.{World}
use Rattle.jv_meaning_world.specs.Above.{superclass_names}
use Rattle.jv_meaning_world.specs.Numbers.{number_named}

-- both are the same number, or both are none
abbrev pub is_same : Option ℕ → Option ℕ → Bool
is_same None None = true
is_same (Some a) (Some b) = nat_eq a b
is_same _ _ = false

-- behind the others, where it is not among them
abbrev pub joined_once : List (Option ℕ) → Option ℕ → List (Option ℕ)
joined_once numbers number = if list_any (is_same number) numbers then numbers else numbers ++ number ∷ []

-- each where it stands first
abbrev pub each_once : List (Option ℕ) → List (Option ℕ)
each_once numbers = fold joined_once [] numbers

-- the numbers of the direct superinterfaces, each where it is in the world
abbrev pub interface_numbers : World → Class → List (Option ℕ)
interface_numbers world class = each_once (map (number_named world) class.interfaces)

-- the numbers of the direct supers: that of the superclass comes first
abbrev pub direct_numbers : World → Class → List (Option ℕ)
direct_numbers world class = map (number_named world) (superclass_names class.super_class) ++ interface_numbers world class
