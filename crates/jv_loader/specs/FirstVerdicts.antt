-- What is wrong with classes by number before their methods are looked at (JVMS 5.3.5).
use Rattle.std.specs.Prelude.{◌≡◌, ℕ, List, length, Option, Some, slice_get}
use Rattle.jv_meaning_world.specs.Numbers.{HoldsAtNumber}
use Rattle.jv_meaning_world.specs.declared.verdict.LoadVerdict.{LoadVerdict}
use Rattle.jv_meaning_world.specs.Verdicts.{verdict_of_class}
use Rattle.jv_meaning_world.specs.World.{World}

-- these are the verdicts on the first classes, so many; nothing where their methods decide
pub record AreVerdictsOnFirst (world : World) (count : ℕ) (verdicts : List (Option LoadVerdict)) : Type 0 where
  pub length_is : length verdicts ≡ count
  pub verdict :
      (number : ℕ) (why : Option LoadVerdict) → slice_get verdicts number ≡ Some why
      → HoldsAtNumber world number (λ l. why ≡ verdict_of_class world l)
