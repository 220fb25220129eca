-- Tests of classes by their numbers.
use Rattle.std.specs.Prelude.{ℕ, Bool, false, ◌&&◌, List, [], ◌∷◌, Option, Some, None, slice_get, get_or, not}
use Rattle.std.specs.List.{list_all}
use Rattle.jv_format.specs.Format.{◌>>=◌}
use Rattle.jv_meaning_world.specs.World.{Loaded, World}
use Rattle.jv_meaning_world.specs.Verdicts.{passes, is_interface}

abbrev pub passes_at : World → (Loaded → Bool) → Option ℕ → Bool
passes_at world test number = passes test (number >>= slice_get world)

-- the first passes one test, and each other another
abbrev pub first_and_others : {A : Type 0} → (A → Bool) → (A → Bool) → List A → Bool
first_and_others first other [] = false
first_and_others first other (a ∷ more) = first a && list_all other more

-- a number is there and marked
abbrev pub marked_at : List Bool → Option ℕ → Bool
marked_at marks None = false
marked_at marks (Some k) = get_or marks k false

-- the superclass is a class, where it is in the world, and the others are interfaces
abbrev pub are_of_right_kind : World → List (Option ℕ) → Bool
are_of_right_kind world numbers = first_and_others (passes_at world (λ l. not (is_interface l))) (passes_at world is_interface) numbers
