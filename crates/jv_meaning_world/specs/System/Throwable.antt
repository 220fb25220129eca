-- java/lang/Throwable, with its message (own selection).
use Rattle.std.specs.Prelude.{ℕ, ◌+◌, List, [], ◌∷◌, Some, None, codes}
use Rattle.jv_pool.specs.declared.constant.Constant.TheVariants.{Utf8, Class as ClassConstant, NameAndType, Fieldref, Methodref}
use Rattle.jv_pool.specs.Constants.{Entry}
use Rattle.jv_class_structure.specs.Flags.{acc_public, acc_private, acc_super}
use Rattle.jv_class_structure.specs.Structure.{ClassStructure}
use Rattle.jv_class.specs.Class.{Class}
use Rattle.jv_meaning_world.specs.System.Mnemonics.{aload, getfield, putfield, invokespecial, areturn, return}
use Rattle.jv_meaning_world.specs.System.Members.{Body, field, method, field_info, method_info}

-- ---- its constants, and their indices

abbrev pub constants : List Entry
constants =
    Utf8 (codes "java/lang/Throwable")
    ∷ ClassConstant 1
    ∷ Utf8 (codes "java/lang/Object")
    ∷ ClassConstant 3
    ∷ Utf8 (codes "java/io/Serializable")
    ∷ ClassConstant 5
    ∷ Utf8 (codes "message")
    ∷ Utf8 (codes "Ljava/lang/String;")
    ∷ NameAndType 7 8
    ∷ Fieldref 2 9
    ∷ Utf8 (codes "<init>")
    ∷ Utf8 (codes "()V")
    ∷ NameAndType 11 12
    ∷ Methodref 4 13
    ∷ Utf8 (codes "(Ljava/lang/String;)V")
    ∷ Utf8 (codes "getMessage")
    ∷ Utf8 (codes "()Ljava/lang/String;")
    ∷ Utf8 (codes "Code")
    ∷ []

abbrev pub throwable_class : ℕ
throwable_class = 2

abbrev pub object_class : ℕ
object_class = 4

abbrev pub serializable_class : ℕ
serializable_class = 6

abbrev pub message_name : ℕ
message_name = 7

abbrev pub message_type : ℕ
message_type = 8

abbrev pub message_field : ℕ
message_field = 10

abbrev pub init_name : ℕ
init_name = 11

abbrev pub init_type : ℕ
init_type = 12

abbrev pub object_init : ℕ
object_init = 14

abbrev pub message_init_type : ℕ
message_init_type = 15

abbrev pub get_message_name : ℕ
get_message_name = 16

abbrev pub get_message_type : ℕ
get_message_type = 17

abbrev pub code_name : ℕ
code_name = 18

-- ---- code, each instruction with its offset

-- <init>()V
abbrev pub init_body : Body
init_body = record {
  max_stack = 1;
  max_locals = 1;
  code =
      aload 0  -- 0
      ∷ invokespecial object_init  -- 1
      ∷ return  -- 4
      ∷ [];
}

-- <init>(Ljava/lang/String;)V
abbrev pub message_init_body : Body
message_init_body = record {
  max_stack = 2;
  max_locals = 2;
  code =
      aload 0  -- 0
      ∷ invokespecial object_init  -- 1
      ∷ aload 0  -- 4
      ∷ aload 1  -- 5
      ∷ putfield message_field  -- 6
      ∷ return  -- 9
      ∷ [];
}

-- getMessage()Ljava/lang/String;
abbrev pub get_message_body : Body
get_message_body = record {
  max_stack = 1;
  max_locals = 1;
  code =
      aload 0  -- 0
      ∷ getfield message_field  -- 1
      ∷ areturn  -- 4
      ∷ [];
}

-- ---- the class

abbrev pub throwable : Class
throwable = record {
  major_version = 52;
  access_flags = acc_public + acc_super;
  name = codes "java/lang/Throwable";
  super_class = Some (codes "java/lang/Object");
  interfaces = codes "java/io/Serializable" ∷ [];
  fields = field acc_private (codes "message") (codes "Ljava/lang/String;") ∷ [];
  methods =
      method acc_public (codes "<init>") (codes "()V") init_body None
      ∷ method acc_public (codes "<init>") (codes "(Ljava/lang/String;)V") message_init_body None
      ∷ method acc_public (codes "getMessage") (codes "()Ljava/lang/String;") get_message_body None
      ∷ [];
  constant_pool = constants;
}

-- and its file
abbrev pub throwable_file : ClassStructure
throwable_file = record {
  minor_version = 0;
  major_version = 52;
  constant_pool = constants;
  access_flags = acc_public + acc_super;
  this_class = throwable_class;
  super_class = object_class;
  interfaces = serializable_class ∷ [];
  fields = field_info acc_private message_name message_type ∷ [];
  methods =
      method_info acc_public init_name init_type code_name init_body []
      ∷ method_info acc_public init_name message_init_type code_name message_init_body []
      ∷ method_info acc_public get_message_name get_message_type code_name get_message_body []
      ∷ [];
  attributes = [];
}
