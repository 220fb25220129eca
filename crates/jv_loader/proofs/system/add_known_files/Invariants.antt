use Rattle.std.proofs.Common.{◌≡◌, ◌++◌, List, map, take}
use Rattle.jv_class.specs.Class.{Class}
use Rattle.jv_classes.specs.Inside.KeptNames.{texts_of}
use Rattle.jv_meaning_world.specs.FileContent.{AreContents}
use Rattle.jv_meaning_world.specs.World.{loaded}
use Rattle.jv_meaning_world.specs.declared.content.Content.TheVariants.{Holds}
use Rattle.jv_loader.specs.Inside.Library.{Joins}
use Rattle.jv_loader.proofs.system.add_known_files.Given as goal

abbrev pub invariant-loop-file : goal.invariant-loop-file
invariant-loop-file l =
    (classes : List Class) → AreContents (texts_of l.files) (map Holds classes) → Joins l.fn.list l.by_system classes
    → l.list ≡ l.fn.list ++ map (loaded l.by_system) (take l.file-index classes)
