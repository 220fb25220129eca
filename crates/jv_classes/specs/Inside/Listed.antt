-- The names of classes.
use Rattle.std.specs.Prelude.{ℕ, List, map}
use Rattle.jv_meaning_world.specs.World.{Loaded}

abbrev pub name_of : Loaded → List ℕ
name_of l = l.class.name

abbrev pub names_of : List Loaded → List (List ℕ)
names_of ls = map name_of ls
