-- The interfaces without members, java/lang/Cloneable and java/io/Serializable (own selection).
use Rattle.std.specs.Prelude.{ℕ, ◌+◌, List, [], ◌∷◌, Some, codes}
use Rattle.jv_pool.specs.declared.constant.Constant.TheVariants.{Utf8, Class as ClassConstant}
use Rattle.jv_pool.specs.Constants.{Entry}
use Rattle.jv_class_structure.specs.Flags.{acc_public, acc_interface, acc_abstract}
use Rattle.jv_class_structure.specs.Structure.{ClassStructure}
use Rattle.jv_class.specs.Class.{Class}

-- ---- constants, and their indices

abbrev pub constants : List ℕ → List Entry
constants name = Utf8 name ∷ ClassConstant 1 ∷ Utf8 (codes "java/lang/Object") ∷ ClassConstant 3 ∷ []

abbrev pub interface_class : ℕ
interface_class = 2

abbrev pub object_class : ℕ
object_class = 4

-- ---- an interface of this name

abbrev pub interface : List ℕ → Class
interface name = record {
  major_version = 52;
  access_flags = acc_public + acc_interface + acc_abstract;
  name = name;
  super_class = Some (codes "java/lang/Object");
  interfaces = [];
  fields = [];
  methods = [];
  constant_pool = constants name;
}

-- and its file
abbrev pub interface_file : List ℕ → ClassStructure
interface_file name = record {
  minor_version = 0;
  major_version = 52;
  constant_pool = constants name;
  access_flags = acc_public + acc_interface + acc_abstract;
  this_class = interface_class;
  super_class = object_class;
  interfaces = [];
  fields = [];
  methods = [];
  attributes = [];
}

-- ---- the two

abbrev pub cloneable : Class
cloneable = interface (codes "java/lang/Cloneable")

abbrev pub cloneable_file : ClassStructure
cloneable_file = interface_file (codes "java/lang/Cloneable")

abbrev pub serializable : Class
serializable = interface (codes "java/io/Serializable")

abbrev pub serializable_file : ClassStructure
serializable_file = interface_file (codes "java/io/Serializable")
