-- java/lang/String: its array of chars, `length`, `charAt`, `hashCode` and `equals` (own selection). In comments, v is the
-- array of `this` (`aload_0, getfield value`), and w that of the string in local 2.
use Rattle.std.specs.Prelude.{ℕ, ◌+◌, List, [], ◌∷◌, Some, None, codes}
use Rattle.jv_pool.specs.declared.constant.Constant.TheVariants.{Utf8, Class as ClassConstant, NameAndType, Fieldref}
use Rattle.jv_pool.specs.Constants.{Entry}
use Rattle.jv_class_structure.specs.Flags.{acc_public, acc_private, acc_final, acc_super}
use Rattle.jv_class_structure.specs.Structure.{ClassStructure}
use Rattle.jv_class.specs.Class.{Class}
use Rattle.jv_meaning_world.specs.System.Mnemonics.{iconst, bipush, iload, aload, istore, astore, iinc, iadd, imul, caload, arraylength, ifne, if_icmpeq, if_icmpge, goto, getfield, checkcast, instanceof, ireturn}
use Rattle.jv_meaning_world.specs.System.Members.{Body, field, method, attribute, field_info, method_info}

-- ---- its constants, and their indices

abbrev pub constants : List Entry
constants =
    Utf8 (codes "java/lang/String")
    ∷ ClassConstant 1
    ∷ Utf8 (codes "java/lang/Object")
    ∷ ClassConstant 3
    ∷ Utf8 (codes "java/io/Serializable")
    ∷ ClassConstant 5
    ∷ Utf8 (codes "value")
    ∷ Utf8 (codes "[C")
    ∷ NameAndType 7 8
    ∷ Fieldref 2 9
    ∷ Utf8 (codes "length")
    ∷ Utf8 (codes "()I")
    ∷ Utf8 (codes "charAt")
    ∷ Utf8 (codes "(I)C")
    ∷ Utf8 (codes "hashCode")
    ∷ Utf8 (codes "equals")
    ∷ Utf8 (codes "(Ljava/lang/Object;)Z")
    ∷ Utf8 (codes "Code")
    ∷ Utf8 (codes "StackMapTable")
    ∷ []

abbrev pub string_class : ℕ
string_class = 2

abbrev pub object_class : ℕ
object_class = 4

abbrev pub serializable_class : ℕ
serializable_class = 6

abbrev pub value_name : ℕ
value_name = 7

abbrev pub value_type : ℕ
value_type = 8

abbrev pub value_field : ℕ
value_field = 10

abbrev pub length_name : ℕ
length_name = 11

abbrev pub length_type : ℕ
length_type = 12

abbrev pub char_at_name : ℕ
char_at_name = 13

abbrev pub char_at_type : ℕ
char_at_type = 14

abbrev pub hash_code_name : ℕ
hash_code_name = 15

abbrev pub equals_name : ℕ
equals_name = 16

abbrev pub equals_type : ℕ
equals_type = 17

abbrev pub code_name : ℕ
code_name = 18

abbrev pub frames_name : ℕ
frames_name = 19

-- ---- code, each instruction with its offset

-- length()I
abbrev pub length_body : Body
length_body = record {
  max_stack = 1;
  max_locals = 1;
  code =
      aload 0  -- 0: v
      ∷ getfield value_field  -- 1
      ∷ arraylength  -- 4
      ∷ ireturn  -- 5
      ∷ [];
}

-- charAt(I)C
abbrev pub char_at_body : Body
char_at_body = record {
  max_stack = 2;
  max_locals = 2;
  code =
      aload 0  -- 0: v
      ∷ getfield value_field  -- 1
      ∷ iload 1  -- 4
      ∷ caload  -- 5
      ∷ ireturn  -- 6
      ∷ [];
}

-- hashCode()I: local 1 is the number so far, local 2 the place in the array
abbrev pub hash_code_body : Body
hash_code_body = record {
  max_stack = 3;
  max_locals = 3;
  code =
      iconst 0  -- 0
      ∷ istore 1  -- 1
      ∷ iconst 0  -- 2
      ∷ istore 2  -- 3
      ∷ iload 2  -- 4
      ∷ aload 0  -- 5: v
      ∷ getfield value_field  -- 6
      ∷ arraylength  -- 9
      ∷ if_icmpge 10 31  -- 10
      ∷ bipush 31  -- 13
      ∷ iload 1  -- 15
      ∷ imul  -- 16
      ∷ aload 0  -- 17: v
      ∷ getfield value_field  -- 18
      ∷ iload 2  -- 21
      ∷ caload  -- 22
      ∷ iadd  -- 23
      ∷ istore 1  -- 24
      ∷ iinc 2 1  -- 25
      ∷ goto 28 4  -- 28
      ∷ iload 1  -- 31
      ∷ ireturn  -- 32
      ∷ [];
}

-- its StackMapTable (4.7.4): two frames, at 4 and 31, with an empty stack
abbrev pub hash_code_frames : List ℕ
hash_code_frames =
    0 ∷ 2
    ∷ 253 ∷ 0 ∷ 4 ∷ 1 ∷ 1  -- at 4 (append_frame): locals 1 and 2 are ints
    ∷ 26  -- at 4 + 26 + 1 (same_frame)
    ∷ []

-- equals(Ljava/lang/Object;)Z: local 2 is the other string, local 3 the place in the arrays
abbrev pub equals_body : Body
equals_body = record {
  max_stack = 3;
  max_locals = 4;
  code =
      aload 1  -- 0
      ∷ instanceof string_class  -- 1
      ∷ ifne 4 9  -- 4
      ∷ iconst 0  -- 7
      ∷ ireturn  -- 8
      ∷ aload 1  -- 9
      ∷ checkcast string_class  -- 10
      ∷ astore 2  -- 13
      ∷ aload 2  -- 14: w
      ∷ getfield value_field  -- 15
      ∷ arraylength  -- 18
      ∷ aload 0  -- 19: v
      ∷ getfield value_field  -- 20
      ∷ arraylength  -- 23
      ∷ if_icmpeq 24 29  -- 24
      ∷ iconst 0  -- 27
      ∷ ireturn  -- 28
      ∷ iconst 0  -- 29
      ∷ istore 3  -- 30
      ∷ iload 3  -- 31
      ∷ aload 0  -- 32: v
      ∷ getfield value_field  -- 33
      ∷ arraylength  -- 36
      ∷ if_icmpge 37 63  -- 37
      ∷ aload 0  -- 40: v
      ∷ getfield value_field  -- 41
      ∷ iload 3  -- 44
      ∷ caload  -- 45
      ∷ aload 2  -- 46: w
      ∷ getfield value_field  -- 47
      ∷ iload 3  -- 50
      ∷ caload  -- 51
      ∷ if_icmpeq 52 57  -- 52
      ∷ iconst 0  -- 55
      ∷ ireturn  -- 56
      ∷ iinc 3 1  -- 57
      ∷ goto 60 31  -- 60
      ∷ iconst 1  -- 63
      ∷ ireturn  -- 64
      ∷ [];
}

-- its StackMapTable: five frames, at 9, 29, 31, 57 and 63, with an empty stack
abbrev pub equals_frames : List ℕ
equals_frames =
    0 ∷ 5
    ∷ 9  -- at 9 (same_frame): the locals as at the start
    ∷ 252 ∷ 0 ∷ 19 ∷ 7 ∷ 0 ∷ string_class  -- at 9 + 19 + 1 (append_frame): local 2 is a string
    ∷ 252 ∷ 0 ∷ 1 ∷ 1  -- at 29 + 1 + 1 (append_frame): local 3 is an int
    ∷ 25  -- at 31 + 25 + 1 (same_frame)
    ∷ 5  -- at 57 + 5 + 1 (same_frame)
    ∷ []

-- ---- the class

abbrev pub string : Class
string = record {
  major_version = 52;
  access_flags = acc_public + acc_final + acc_super;
  name = codes "java/lang/String";
  super_class = Some (codes "java/lang/Object");
  interfaces = codes "java/io/Serializable" ∷ [];
  fields = field (acc_private + acc_final) (codes "value") (codes "[C") ∷ [];
  methods =
      method acc_public (codes "length") (codes "()I") length_body None
      ∷ method acc_public (codes "charAt") (codes "(I)C") char_at_body None
      ∷ method acc_public (codes "hashCode") (codes "()I") hash_code_body (Some hash_code_frames)
      ∷ method acc_public (codes "equals") (codes "(Ljava/lang/Object;)Z") equals_body (Some equals_frames)
      ∷ [];
  constant_pool = constants;
}

-- and its file
abbrev pub string_file : ClassStructure
string_file = record {
  minor_version = 0;
  major_version = 52;
  constant_pool = constants;
  access_flags = acc_public + acc_final + acc_super;
  this_class = string_class;
  super_class = object_class;
  interfaces = serializable_class ∷ [];
  fields = field_info (acc_private + acc_final) value_name value_type ∷ [];
  methods =
      method_info acc_public length_name length_type code_name length_body []
      ∷ method_info acc_public char_at_name char_at_type code_name char_at_body []
      ∷ method_info acc_public hash_code_name length_type code_name hash_code_body (attribute frames_name hash_code_frames ∷ [])
      ∷ method_info acc_public equals_name equals_type code_name equals_body (attribute frames_name equals_frames ∷ [])
      ∷ [];
  attributes = [];
}
