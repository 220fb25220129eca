-- The world of what a host gives alone.
use Rattle.std.specs.Prelude.{◌++◌, List, map, false, true}
use Rattle.jv_class.specs.Class.{Class}
use Rattle.jv_meaning_world.specs.Library.{system_with, with_library}
use Rattle.jv_meaning_world.specs.World.{World, loaded}

abbrev pub host_world : List Class → World
host_world library = map (loaded true) (system_with library) ++ map (loaded false) (with_library library).front
