-- java/lang/Object, with `<init>` and `equals` (own selection).
use Rattle.std.specs.Prelude.{ℕ, ◌+◌, List, [], ◌∷◌, Some, None, codes}
use Rattle.jv_pool.specs.declared.constant.Constant.TheVariants.{Utf8, Class as ClassConstant}
use Rattle.jv_pool.specs.Constants.{Entry}
use Rattle.jv_class_structure.specs.Flags.{acc_public, acc_super}
use Rattle.jv_class_structure.specs.Structure.{ClassStructure}
use Rattle.jv_class.specs.Class.{Class}
use Rattle.jv_meaning_world.specs.System.Mnemonics.{iconst, aload, if_acmpne, ireturn, return}
use Rattle.jv_meaning_world.specs.System.Members.{Body, method, attribute, method_info}

-- ---- its constants, and their indices

abbrev pub constants : List Entry
constants =
    Utf8 (codes "java/lang/Object")
    ∷ ClassConstant 1
    ∷ Utf8 (codes "<init>")
    ∷ Utf8 (codes "()V")
    ∷ Utf8 (codes "equals")
    ∷ Utf8 (codes "(Ljava/lang/Object;)Z")
    ∷ Utf8 (codes "Code")
    ∷ Utf8 (codes "StackMapTable")
    ∷ []

abbrev pub object_class : ℕ
object_class = 2

abbrev pub init_name : ℕ
init_name = 3

abbrev pub init_type : ℕ
init_type = 4

abbrev pub equals_name : ℕ
equals_name = 5

abbrev pub equals_type : ℕ
equals_type = 6

abbrev pub code_name : ℕ
code_name = 7

abbrev pub frames_name : ℕ
frames_name = 8

-- ---- code, each instruction with its offset

-- <init>()V
abbrev pub init_body : Body
init_body = record { max_stack = 0; max_locals = 1; code = return ∷ [] }  -- 0

-- equals(Ljava/lang/Object;)Z
abbrev pub equals_body : Body
equals_body = record {
  max_stack = 2;
  max_locals = 2;
  code =
      aload 0  -- 0
      ∷ aload 1  -- 1
      ∷ if_acmpne 2 7  -- 2
      ∷ iconst 1  -- 5
      ∷ ireturn  -- 6
      ∷ iconst 0  -- 7
      ∷ ireturn  -- 8
      ∷ [];
}

-- its StackMapTable (4.7.4): one frame, at 7
abbrev pub equals_frames : List ℕ
equals_frames =
    0 ∷ 1
    ∷ 7  -- at 7 (same_frame): the locals as at the start, and an empty stack
    ∷ []

-- ---- the class

abbrev pub object : Class
object = record {
  major_version = 52;
  access_flags = acc_public + acc_super;
  name = codes "java/lang/Object";
  super_class = None;
  interfaces = [];
  fields = [];
  methods =
      method acc_public (codes "<init>") (codes "()V") init_body None
      ∷ method acc_public (codes "equals") (codes "(Ljava/lang/Object;)Z") equals_body (Some equals_frames)
      ∷ [];
  constant_pool = constants;
}

-- and its file
abbrev pub object_file : ClassStructure
object_file = record {
  minor_version = 0;
  major_version = 52;
  constant_pool = constants;
  access_flags = acc_public + acc_super;
  this_class = object_class;
  super_class = 0;
  interfaces = [];
  fields = [];
  methods =
      method_info acc_public init_name init_type code_name init_body []
      ∷ method_info acc_public equals_name equals_type code_name equals_body (attribute frames_name equals_frames ∷ [])
      ∷ [];
  attributes = [];
}
