-- The classes below java/lang/Throwable (own selection): each has two constructors, which call those of its superclass.
use Rattle.std.specs.Prelude.{ℕ, ◌+◌, List, [], ◌∷◌, Some, None, codes}
use Rattle.jv_pool.specs.declared.constant.Constant.TheVariants.{Utf8, Class as ClassConstant, NameAndType, Methodref}
use Rattle.jv_pool.specs.Constants.{Entry}
use Rattle.jv_class_structure.specs.Flags.{acc_public, acc_super, acc_abstract}
use Rattle.jv_class_structure.specs.Structure.{ClassStructure}
use Rattle.jv_class.specs.Class.{Class}
use Rattle.jv_meaning_world.specs.System.Mnemonics.{aload, invokespecial, return}
use Rattle.jv_meaning_world.specs.System.Members.{Body, method, method_info}

-- what such classes differ in
pub record ThrowableRow : Type 0 where
  pub access_flags : ℕ
  pub name : List ℕ
  pub super_name : List ℕ

-- ---- the constants of one, and their indices

abbrev pub constants : ThrowableRow → List Entry
constants row =
    Utf8 row.name
    ∷ ClassConstant 1
    ∷ Utf8 row.super_name
    ∷ ClassConstant 3
    ∷ Utf8 (codes "<init>")
    ∷ Utf8 (codes "()V")
    ∷ NameAndType 5 6
    ∷ Methodref 4 7
    ∷ Utf8 (codes "(Ljava/lang/String;)V")
    ∷ NameAndType 5 9
    ∷ Methodref 4 10
    ∷ Utf8 (codes "Code")
    ∷ []

abbrev pub this_class : ℕ
this_class = 2

abbrev pub super_class : ℕ
super_class = 4

abbrev pub init_name : ℕ
init_name = 5

abbrev pub init_type : ℕ
init_type = 6

abbrev pub super_init : ℕ
super_init = 8

abbrev pub message_init_type : ℕ
message_init_type = 9

abbrev pub super_message_init : ℕ
super_message_init = 11

abbrev pub code_name : ℕ
code_name = 12

-- ---- code, each instruction with its offset

-- <init>()V
abbrev pub init_body : Body
init_body = record {
  max_stack = 1;
  max_locals = 1;
  code =
      aload 0  -- 0
      ∷ invokespecial super_init  -- 1
      ∷ return  -- 4
      ∷ [];
}

-- <init>(Ljava/lang/String;)V
abbrev pub message_init_body : Body
message_init_body = record {
  max_stack = 2;
  max_locals = 2;
  code =
      aload 0  -- 0
      ∷ aload 1  -- 1
      ∷ invokespecial super_message_init  -- 2
      ∷ return  -- 5
      ∷ [];
}

-- ---- the class of a row

abbrev pub throwable_class : ThrowableRow → Class
throwable_class row = record {
  major_version = 52;
  access_flags = row.access_flags;
  name = row.name;
  super_class = Some row.super_name;
  interfaces = [];
  fields = [];
  methods =
      method acc_public (codes "<init>") (codes "()V") init_body None
      ∷ method acc_public (codes "<init>") (codes "(Ljava/lang/String;)V") message_init_body None
      ∷ [];
  constant_pool = constants row;
}

-- and its file
abbrev pub throwable_class_file : ThrowableRow → ClassStructure
throwable_class_file row = record {
  minor_version = 0;
  major_version = 52;
  constant_pool = constants row;
  access_flags = row.access_flags;
  this_class = this_class;
  super_class = super_class;
  interfaces = [];
  fields = [];
  methods =
      method_info acc_public init_name init_type code_name init_body []
      ∷ method_info acc_public init_name message_init_type code_name message_init_body []
      ∷ [];
  attributes = [];
}

-- ---- the rows: the superclass, and the class below it

abbrev pub below : List ℕ → List ℕ → ThrowableRow
below super_name name = record { access_flags = acc_public + acc_super; name = name; super_name = super_name }

abbrev pub abstract_below : List ℕ → List ℕ → ThrowableRow
abstract_below super_name name =
    record { access_flags = acc_public + acc_super + acc_abstract; name = name; super_name = super_name }

abbrev pub throwable_rows : List ThrowableRow
throwable_rows =
    below (codes "java/lang/Throwable") (codes "java/lang/Exception")
    ∷ below (codes "java/lang/Throwable") (codes "java/lang/Error")
    ∷ below (codes "java/lang/Exception") (codes "java/lang/RuntimeException")
    ∷ below (codes "java/lang/RuntimeException") (codes "java/lang/ArithmeticException")
    ∷ below (codes "java/lang/RuntimeException") (codes "java/lang/ArrayStoreException")
    ∷ below (codes "java/lang/RuntimeException") (codes "java/lang/ClassCastException")
    ∷ below (codes "java/lang/RuntimeException") (codes "java/lang/IllegalArgumentException")
    ∷ below (codes "java/lang/RuntimeException") (codes "java/lang/IllegalStateException")
    ∷ below (codes "java/lang/RuntimeException") (codes "java/lang/IndexOutOfBoundsException")
    ∷ below (codes "java/lang/RuntimeException") (codes "java/lang/NegativeArraySizeException")
    ∷ below (codes "java/lang/RuntimeException") (codes "java/lang/NullPointerException")
    ∷ below (codes "java/lang/RuntimeException") (codes "java/lang/UnsupportedOperationException")
    ∷ below (codes "java/lang/IndexOutOfBoundsException") (codes "java/lang/ArrayIndexOutOfBoundsException")
    ∷ below (codes "java/lang/Error") (codes "java/lang/LinkageError")
    ∷ abstract_below (codes "java/lang/Error") (codes "java/lang/VirtualMachineError")
    ∷ below (codes "java/lang/VirtualMachineError") (codes "java/lang/OutOfMemoryError")
    ∷ below (codes "java/lang/VirtualMachineError") (codes "java/lang/StackOverflowError")
    ∷ below (codes "java/lang/LinkageError") (codes "java/lang/ClassCircularityError")
    ∷ below (codes "java/lang/LinkageError") (codes "java/lang/ExceptionInInitializerError")
    ∷ below (codes "java/lang/LinkageError") (codes "java/lang/IncompatibleClassChangeError")
    ∷ below (codes "java/lang/LinkageError") (codes "java/lang/NoClassDefFoundError")
    ∷ below (codes "java/lang/LinkageError") (codes "java/lang/VerifyError")
    ∷ below (codes "java/lang/IncompatibleClassChangeError") (codes "java/lang/AbstractMethodError")
    ∷ below (codes "java/lang/IncompatibleClassChangeError") (codes "java/lang/IllegalAccessError")
    ∷ below (codes "java/lang/IncompatibleClassChangeError") (codes "java/lang/InstantiationError")
    ∷ below (codes "java/lang/IncompatibleClassChangeError") (codes "java/lang/NoSuchFieldError")
    ∷ below (codes "java/lang/IncompatibleClassChangeError") (codes "java/lang/NoSuchMethodError")
    ∷ []
