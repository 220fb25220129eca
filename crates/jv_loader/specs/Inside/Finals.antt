-- What is known of finals and packages.
use Rattle.std.specs.Prelude.{◌≡◌, ◌*◌, ◌≤◌, length, map, Bool, []}
use Rattle.jv_meaning_world.specs.World.{World, Loaded}
use Rattle.jv_lookups.specs.Packages.{AreNumbered}
use Rattle.jv_lookups.specs.Finals.{declares_final}
use Rattle.jv_lookups.specs.FinalKeys.{TellsFinals}
use Rattle.jv_loader.specs.declared.verdicts.Finals.{Finals}
use Rattle.jv_meaning_world.specs.Above.{superclasses}
use Rattle.jv_meaning_world.specs.Verdicts.{breaks_final}

pub record AreTold (world : World) (finals : Finals) : Type 0 where
  pub declarers : finals.declarers.items ≡ map declares_final world
  pub keys : TellsFinals world finals.keys
  pub packages : AreNumbered world finals.packages.items
  pub marks : 2 * length world ≤ length finals.marks
  pub asked : 2 * length world ≤ length finals.asked

-- a method of the class breaks a final one of its superclasses
abbrev pub breaks_final_above : World → Loaded → Bool
breaks_final_above world l = breaks_final l [] (superclasses world l.class)
