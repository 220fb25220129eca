-- What a file that was read stands for.
use Rattle.std.specs.Prelude.{Option, Some}
use Rattle.std.specs.Option.{option_map}
use Rattle.jv_class_structure.specs.Structure.{ClassStructure}
use Rattle.jv_class.specs.Class.{class_of}
use Rattle.jv_meaning_world.specs.declared.content.Content.{Content}
use Rattle.jv_meaning_world.specs.declared.content.Content.TheVariants.{OtherVersion, NoClassFile, MoreThanProfile, Holds}
use Rattle.jv_meaning_world.specs.FileContent.{FileContent}

-- the same with the class by its names
abbrev pub content_of : Content ClassStructure → Option FileContent
content_of OtherVersion = Some OtherVersion
content_of NoClassFile = Some NoClassFile
content_of MoreThanProfile = Some MoreThanProfile
content_of (Holds c) = option_map Holds (class_of c)
