-- What tables tell of the classes of a world.
use Rattle.std.specs.Prelude.{◌≡◌, ℕ, Bool, false, List, Option, Some, IsTrue, length, map, slice_get, get_or}
use Rattle.std.specs.Global.{Vec}
use Rattle.jv_classes.specs.Ways.{Rows, related}
use Rattle.jv_meaning_world.specs.World.{Loaded, World}
use Rattle.jv_meaning_world.specs.Above.{is_above, superclasses}
use Rattle.jv_meaning_world.specs.LookUps.{is_among}
use Rattle.jv_meaning_world.specs.Numbers.{AreNumbers, AreSuperclassesOf}
use Rattle.jv_meaning_world.specs.Verdicts.{is_loadable}
use Rattle.jv_classes.specs.Marks.{MarkedKeys}
use Rattle.jv_classes.specs.Inside.Marked.{AreMarked}
use Rattle.jv_classes.specs.Inside.Rows.{all_direct_numbers, all_superclass_numbers}

-- which class is above which
abbrev pub TellsAbove : World → Rows → Type 0
TellsAbove world rows = (a b : ℕ) (l to : Loaded) → slice_get world a ≡ Some l → slice_get world b ≡ Some to
    → related rows a b ≡ is_above world to.class.name l.class

-- which class is a superclass of which
abbrev pub TellsSuperclasses : World → Rows → Type 0
TellsSuperclasses world rows =
    (a b : ℕ) (l to : Loaded) → slice_get world a ≡ Some l → slice_get world b ≡ Some to
    → related rows a b ≡ is_among (superclasses world l.class) to

-- a number is marked, and all that it is related to
abbrev pub AreAllMarked : Rows → List Bool → ℕ → Type 0
AreAllMarked rows marks number =
    IsTrue (get_or marks number false) × ((to : ℕ) → IsTrue (related rows number to) → IsTrue (get_or marks to false))

-- these are the superclasses of the class with a number, each by its own
pub record IsChain (world : World) (number : ℕ) (chain : List ℕ) : Type 0 where
  pub found : AreSuperclassesOf world number chain
  pub numbers : AreNumbers world chain

-- each of the first so many classes has its superclasses in one list
pub record AreChains (world : World) (count : ℕ) (chains : List (Vec ℕ)) : Type 0 where
  pub size : length chains ≡ count
  pub each : (number : ℕ) (chain : Vec ℕ) → slice_get chains number ≡ Some chain → IsChain world number chain.items

-- a table tells of a world: who the direct supers are, and the superclass, and all superclasses, which class is above which, which is
-- a superclass of which, which can be loaded, and which may declare a method or a field with a key
pub record IsTable (world : World) (numbers : List (List (Option ℕ))) (direct : List (Option ℕ)) (listed : List (Vec ℕ))
    (ups bases : Rows) (marks : List Bool) (seed : ℕ) (methods fields : MarkedKeys) : Type 0 where
  pub supers : numbers ≡ all_direct_numbers world
  pub direct_superclasses : direct ≡ all_superclass_numbers world
  pub chains : AreChains world (length world) listed
  pub above_size : length ups ≡ length world
  pub above : TellsAbove world ups
  pub superclasses_size : length bases ≡ length world
  pub superclasses : TellsSuperclasses world bases
  pub loadable : marks ≡ map (is_loadable world) world
  pub members : AreMarked seed world methods fields
