-- The object of a call, by the number of its class.
use Rattle.std.specs.Prelude.{ℕ, ◌<◌, ⊤, IsTrue, length, Option, Some, None, slice_get}
use Rattle.jv_format.specs.Format.{◌>>=◌}
use Rattle.jv_meaning_world.specs.World.{Loaded, World}
use Rattle.jv_meaning_world.specs.Verdicts.{is_loadable}
use Rattle.jv_meaning_world.specs.Numbers.{HoldsAtNumber}

-- its class, none for an array
abbrev pub object_class_at : World → Option ℕ → Option Loaded
object_class_at world object = object >>= slice_get world

-- the number is that of a class that can be loaded
pub record IsLoadableAt (world : World) (number : ℕ) : Type 0 where
  pub class : number < length world
  pub loadable : HoldsAtNumber world number (λ l. IsTrue (is_loadable world l))

abbrev pub IsObject : World → Option ℕ → Type 0
IsObject world None = ⊤
IsObject world (Some number) = IsLoadableAt world number
