-- Classes by number, as contracts speak of them: the number of a class is its place in the world. No rule of loading or
-- linking (JVMS 5.3, 5.4) speaks of numbers.
use Rattle.std.specs.Prelude.{◌≡◌, ℕ, ◌<◌, List, length, map, Option, Some, IsTrue, slice_get}
use Rattle.std.specs.List.{All, filter_map, position}
use Rattle.std.specs.Str.{bytes_eq}
use Rattle.jv_format.specs.Format.{◌>>=◌}
use Rattle.jv_class.specs.Class.{Class}
use Rattle.jv_class.specs.Rules.{is_no_array_name}
use Rattle.jv_meaning_world.specs.World.{Loaded, World}
use Rattle.jv_meaning_world.specs.Above.{super_names, superclasses}

-- what holds of the class with a number
abbrev pub HoldsAtNumber : World → ℕ → (Loaded → Type 0) → Type 0
HoldsAtNumber world number P = (l : Loaded) → slice_get world number ≡ Some l → P l

-- the classes with these numbers
abbrev pub classes_at : World → List ℕ → List Loaded
classes_at world numbers = filter_map (slice_get world) numbers

-- each number is that of a class
abbrev pub AreNumbers : World → List ℕ → Type 0
AreNumbers world numbers = All (λ number. number < length world) numbers

-- the number of the first class of a name
abbrev pub number_named : World → List ℕ → Option ℕ
number_named world name = position (λ l. bytes_eq l.class.name name) world

-- each class of the world is the one of its name
abbrev pub IsNumbered : World → Type 0
IsNumbered world = (place : ℕ) (l : Loaded) → slice_get world place ≡ Some l → number_named world l.class.name ≡ Some place

-- no class of the world has the name of an array (JVMS 4.1)
abbrev pub AreNoArrays : World → Type 0
AreNoArrays world = (place : ℕ) (l : Loaded) → slice_get world place ≡ Some l → IsTrue (is_no_array_name l.class.name)

-- the number of the superclass, where the class has one and it is in the world
abbrev pub superclass_number : World → Class → Option ℕ
superclass_number world class = class.super_class >>= number_named world

-- the numbers of the direct supers, each where it is in the world: that of the superclass comes first
abbrev pub super_numbers : World → Class → List (Option ℕ)
super_numbers world class = map (number_named world) (super_names class)

-- what holds of the classes with two numbers
abbrev pub HoldsAtBoth : World → ℕ → ℕ → (Loaded → Loaded → Type 0) → Type 0
HoldsAtBoth world one other P = HoldsAtNumber world one (λ l. HoldsAtNumber world other (λ m. P l m))

-- the numbers of the superclasses of the class with a number, from the direct one on, where they are in the world
abbrev pub AreSuperclassesOf : World → ℕ → List ℕ → Type 0
AreSuperclassesOf world number numbers = HoldsAtNumber world number (λ l. classes_at world numbers ≡ superclasses world l.class)
