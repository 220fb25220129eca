-- Orders of initialization as the code has them (JVMS 5.5).
use Rattle.std.specs.Prelude.{◌≡◌, ℕ, List}
use Rattle.jv_meaning_world.specs.World.{Loaded, World}
use Rattle.jv_meaning_world.specs.Numbers.{classes_at, AreNumbers}
use Rattle.jv_meaning_typing.specs.InitializationOrder.{init_order}

-- they are the numbers of those that are initialized before a class, in their order
pub record IsOrder (world : World) (numbers : List ℕ) (l : Loaded) : Type 0 where
  pub those : classes_at world numbers ≡ init_order world l
  pub numbers_of : AreNumbers world numbers
