-- What is kept of a class beside its file.
use Rattle.std.specs.Prelude.{◌≡◌, Bool, true, map, Option, Some, None, unwrap_or}
use Rattle.std.specs.Option.{option_copied}
use Rattle.jv_class_structure.specs.Structure.{ClassStructure}
use Rattle.jv_class.specs.Class.{Class, class_of}
use Rattle.jv_meaning_world.specs.System.Io.{io}
use Rattle.jv_meaning_world.specs.World.{package_of}
use Rattle.jv_classes.specs.declared.kept.Kept.{Kept}
use Rattle.jv_classes.specs.Inside.Seen.{field_seen, method_seen}

-- what is kept is what the class says
pub record Keeps (class : Class) (kept : Kept) : Type 0 where
  pub major : kept.major ≡ class.major_version
  pub access_flags : kept.access_flags ≡ class.access_flags
  pub name : kept.name.now ≡ class.name
  pub package_name : kept.package_name.now ≡ package_of class.name
  pub super_class : option_copied kept.super_name ≡ class.super_class
  pub fields : kept.fields ≡ map field_seen class.fields
  pub methods : kept.methods ≡ map method_seen class.methods

-- the class of a file, and host/Io where there is none
abbrev pub class_of_file : Option ClassStructure → Class
class_of_file None = io
class_of_file (Some file) = unwrap_or (class_of file) io

-- what holds of each class of a world as the code has it
pub record IsLoaded (by_system : Bool) (file : Option ClassStructure) (kept : Kept) : Type 0 where
  pub keeps : Keeps (class_of_file file) kept
  pub known : (c : ClassStructure) → file ≡ Some c → class_of c ≡ Some (class_of_file file)
  pub built_in : file ≡ None → by_system ≡ true
