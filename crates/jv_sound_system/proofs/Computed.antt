-- The system's classes pass the tests, whatever classes stand behind them.
use Rattle.std.specs.Prelude.{◌++◌, map, true, IsTrue, is_none}
use Rattle.std.specs.List.{list_all}
use Rattle.std.proofs.Common.{refl}
use Rattle.jv_class.specs.Class.{Class}
use Rattle.jv_meaning_world.specs.System.Classes.{system_classes}
use Rattle.jv_meaning_world.specs.World.{World, loaded}
use Rattle.jv_meaning_world.specs.Verdicts.{verdict_of_class}
use Rattle.jv_sound_system.specs.Table.{system_shown, types_classes}

pub system_types : (guests : World) → IsTrue (types_classes (map (loaded true) system_classes ++ guests) system_shown system_classes)
system_types guests = refl

-- nothing is wrong with them before their methods are looked at
pub system_is_plain : (guests : World) → IsTrue (list_all (λ (c : Class). is_none
    (verdict_of_class (map (loaded true) system_classes ++ guests) (loaded true c))) system_classes)
system_is_plain guests = refl
