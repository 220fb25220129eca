-- The numbers of direct supers, class by class.
use Rattle.std.specs.Prelude.{ℕ, List, map, Option}
use Rattle.std.specs.Global.{Vec}
use Rattle.std.specs.List.{All}
use Rattle.jv_classes.specs.Ways.{IsBelowSize}
use Rattle.jv_meaning_world.specs.World.{World}
use Rattle.jv_meaning_world.specs.Numbers.{superclass_number}
use Rattle.jv_classes.specs.Once.{direct_numbers}

abbrev pub row_of : Vec (Option ℕ) → List (Option ℕ)
row_of row = row.items

abbrev pub numbers_of : List (Vec (Option ℕ)) → List (List (Option ℕ))
numbers_of rows = map row_of rows

abbrev pub all_direct_numbers : World → List (List (Option ℕ))
all_direct_numbers world = map (λ l. direct_numbers world l.class) world

abbrev pub all_superclass_numbers : World → List (Option ℕ)
all_superclass_numbers world = map (λ l. superclass_number world l.class) world

abbrev pub AreAllBelow : ℕ → List (List (Option ℕ)) → Type 0
AreAllBelow size rows = All (All (IsBelowSize size)) rows
