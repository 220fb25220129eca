-- The methods of a class, and the numbers of first methods, as they are counted one after the other.
use Rattle.std.specs.Prelude.{ℕ, ◌+◌, List, [], ◌∷◌, ◌++◌, length, map}
use Rattle.jv_meaning_world.specs.World.{Loaded, World}
use Rattle.jv_meaning_world.specs.Overriding.{Declared}
use Rattle.jv_meaning_world.specs.Verdicts.{declared_by}

abbrev pub own_methods : Loaded → List Declared
own_methods l = map (declared_by l) l.class.methods

-- those of classes, before whose methods there are so many
unfoldable pub firsts_from : ℕ → World → List ℕ
firsts_from number [] = []
firsts_from number (l ∷ more) = number ∷ firsts_from (number + length l.class.methods) more
