-- Run-time packages by number (JVMS 5.3).
use Rattle.std.specs.Prelude.{◌≡◌, ℕ, ◌*◌, ◌<◌, ◌==◌, List, length, get_or, Some, slice_get}
use Rattle.std.specs.List.{All}
use Rattle.jv_meaning_world.specs.World.{Loaded, same_package}

-- a number for the package of each class, the same for two classes exactly where they have one package
pub record AreNumbered (classes : List Loaded) (numbers : List ℕ) : Type 0 where
  pub one_each : length numbers ≡ length classes
  pub below : All (λ number. number < 2 * length classes) numbers
  pub same : (a b : ℕ) (l k : Loaded) → slice_get classes a ≡ Some l → slice_get classes b ≡ Some k
      → (get_or numbers a 0 == get_or numbers b 0) ≡ same_package l k
