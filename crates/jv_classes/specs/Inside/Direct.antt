-- Relations on the numbers of classes.
use Rattle.std.specs.Prelude.{◌≡◌, ◌↔◌, ℕ, Some, IsTrue, slice_get}
use Rattle.std.specs.List.{Contains}
use Rattle.jv_classes.specs.Ways.{Rows, related}
use Rattle.jv_meaning_world.specs.World.{Loaded, World}
use Rattle.jv_meaning_world.specs.Above.{supers_in, superclass_in}

-- the second number is that of a direct super of the first
pub record IsDirectSuper (world : World) (a b : ℕ) : Type 0 where
  pub from : Loaded
  pub to : Loaded
  pub from_at : slice_get world a ≡ Some from
  pub to_at : slice_get world b ≡ Some to
  pub above : Contains (supers_in world from.class) to

-- the relation of each class to its direct supers
abbrev pub IsDirect : World → Rows → Type 0
IsDirect world rows = (a b : ℕ) → IsTrue (related rows a b) ↔ IsDirectSuper world a b

-- the second number is that of the superclass of the first
pub record IsSuperclass (world : World) (a b : ℕ) : Type 0 where
  pub from : Loaded
  pub to : Loaded
  pub from_at : slice_get world a ≡ Some from
  pub to_at : slice_get world b ≡ Some to
  pub above : superclass_in world from.class ≡ Some to

-- the relation of each class to its superclass
abbrev pub IsToSuperclass : World → Rows → Type 0
IsToSuperclass world rows = (a b : ℕ) → IsTrue (related rows a b) ↔ IsSuperclass world a b
