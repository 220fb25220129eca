-- The system's classes, in one order (own selection): the 32 that have files, and host/Io behind them.
use Rattle.std.specs.Prelude.{ℕ, List, [], ◌∷◌, ◌++◌, map}
use Rattle.jv_class_structure.specs.Structure.{ClassStructure, class_bytes}
use Rattle.jv_class.specs.Class.{Class}
use Rattle.jv_meaning_world.specs.FileContent.{FileContent}
use Rattle.jv_meaning_world.specs.declared.content.Content.TheVariants.{Holds}
use Rattle.jv_meaning_world.specs.System.Interfaces.{cloneable, cloneable_file, serializable, serializable_file}
use Rattle.jv_meaning_world.specs.System.Io.{io}
use Rattle.jv_meaning_world.specs.System.Object.{object, object_file}
use Rattle.jv_meaning_world.specs.System.String.{string, string_file}
use Rattle.jv_meaning_world.specs.System.Throwable.{throwable, throwable_file}
use Rattle.jv_meaning_world.specs.System.Throwables.{throwable_class, throwable_class_file, throwable_rows}

-- the classes with files
abbrev pub classes_with_files : List Class
classes_with_files = cloneable ∷ serializable ∷ object ∷ string ∷ throwable ∷ map throwable_class throwable_rows

abbrev pub system_classes : List Class
system_classes = classes_with_files ++ io ∷ []

-- what their files spell, each at its class's place
abbrev pub system_structures : List ClassStructure
system_structures =
    cloneable_file ∷ serializable_file ∷ object_file ∷ string_file ∷ throwable_file ∷ map throwable_class_file throwable_rows

-- the bytes of the files
abbrev pub system_bytes : List (List ℕ)
system_bytes = map class_bytes system_structures

-- what the files hold
abbrev pub system_contents : List FileContent
system_contents = map Holds classes_with_files
