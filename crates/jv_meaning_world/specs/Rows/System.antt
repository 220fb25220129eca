-- Worked rows of the system classes, computed.
use Rattle.std.specs.Prelude.{◌≡◌, ℕ, Bool, true, not, ◌&&◌, ◌||◌, nat_eq, List, [], ◌∷◌, length, map, Option, Some, None, IsTrue, codes}
use Rattle.std.specs.List.{flat_map, list_all, list_any, starts_with}
use Rattle.std.specs.Str.{bytes_eq}
use Rattle.jv_code.specs.Insns.{insn_bytes}
use Rattle.jv_class.specs.Class.{Class}
use Rattle.jv_pool.specs.Constants.{Entry, MemberReference, utf8_at, class_name_at, field_reference_at, method_reference_at}
use Rattle.jv_meaning_world.specs.System.Mnemonics.{offsets, targets}
use Rattle.jv_meaning_world.specs.System.Members.{Body}
use Rattle.jv_meaning_world.specs.System.Interfaces as interfaces
use Rattle.jv_meaning_world.specs.System.Object as object
use Rattle.jv_meaning_world.specs.System.String as string
use Rattle.jv_meaning_world.specs.System.Throwable as throwable
use Rattle.jv_meaning_world.specs.System.Throwables as throwables
use Rattle.jv_meaning_world.specs.System.Classes.{classes_with_files, system_classes}

-- ---- each index names what its name says

abbrev pub HasText : List Entry → ℕ → List ℕ → Type 0
HasText pool index text = utf8_at pool index ≡ Some text

abbrev pub HasClass : List Entry → ℕ → List ℕ → Type 0
HasClass pool index name = class_name_at pool index ≡ Some name

abbrev pub member : List ℕ → List ℕ → List ℕ → MemberReference
member class name descriptor = record { class = class; name = name; descriptor = descriptor }

pub record ObjectIndices : Type 0 where
  pub object_class : HasClass object.constants object.object_class (codes "java/lang/Object")
  pub init_name : HasText object.constants object.init_name (codes "<init>")
  pub init_type : HasText object.constants object.init_type (codes "()V")
  pub equals_name : HasText object.constants object.equals_name (codes "equals")
  pub equals_type : HasText object.constants object.equals_type (codes "(Ljava/lang/Object;)Z")
  pub code_name : HasText object.constants object.code_name (codes "Code")
  pub frames_name : HasText object.constants object.frames_name (codes "StackMapTable")

pub record StringIndices : Type 0 where
  pub string_class : HasClass string.constants string.string_class (codes "java/lang/String")
  pub object_class : HasClass string.constants string.object_class (codes "java/lang/Object")
  pub serializable_class : HasClass string.constants string.serializable_class (codes "java/io/Serializable")
  pub value_name : HasText string.constants string.value_name (codes "value")
  pub value_type : HasText string.constants string.value_type (codes "[C")
  pub value_field : field_reference_at string.constants string.value_field
      ≡ Some (member (codes "java/lang/String") (codes "value") (codes "[C"))
  pub length_name : HasText string.constants string.length_name (codes "length")
  pub length_type : HasText string.constants string.length_type (codes "()I")
  pub char_at_name : HasText string.constants string.char_at_name (codes "charAt")
  pub char_at_type : HasText string.constants string.char_at_type (codes "(I)C")
  pub hash_code_name : HasText string.constants string.hash_code_name (codes "hashCode")
  pub equals_name : HasText string.constants string.equals_name (codes "equals")
  pub equals_type : HasText string.constants string.equals_type (codes "(Ljava/lang/Object;)Z")
  pub code_name : HasText string.constants string.code_name (codes "Code")
  pub frames_name : HasText string.constants string.frames_name (codes "StackMapTable")

pub record ThrowableIndices : Type 0 where
  pub throwable_class : HasClass throwable.constants throwable.throwable_class (codes "java/lang/Throwable")
  pub object_class : HasClass throwable.constants throwable.object_class (codes "java/lang/Object")
  pub serializable_class : HasClass throwable.constants throwable.serializable_class (codes "java/io/Serializable")
  pub message_name : HasText throwable.constants throwable.message_name (codes "message")
  pub message_type : HasText throwable.constants throwable.message_type (codes "Ljava/lang/String;")
  pub message_field : field_reference_at throwable.constants throwable.message_field
      ≡ Some (member (codes "java/lang/Throwable") (codes "message") (codes "Ljava/lang/String;"))
  pub init_name : HasText throwable.constants throwable.init_name (codes "<init>")
  pub init_type : HasText throwable.constants throwable.init_type (codes "()V")
  pub object_init : method_reference_at throwable.constants throwable.object_init
      ≡ Some (member (codes "java/lang/Object") (codes "<init>") (codes "()V"))
  pub message_init_type : HasText throwable.constants throwable.message_init_type (codes "(Ljava/lang/String;)V")
  pub get_message_name : HasText throwable.constants throwable.get_message_name (codes "getMessage")
  pub get_message_type : HasText throwable.constants throwable.get_message_type (codes "()Ljava/lang/String;")
  pub code_name : HasText throwable.constants throwable.code_name (codes "Code")

pub record InterfaceIndices (name : List ℕ) : Type 0 where
  pub interface_class : HasClass (interfaces.constants name) interfaces.interface_class name
  pub object_class : HasClass (interfaces.constants name) interfaces.object_class (codes "java/lang/Object")

pub record RowIndices (row : throwables.ThrowableRow) : Type 0 where
  pub this_class : HasClass (throwables.constants row) throwables.this_class row.name
  pub super_class : HasClass (throwables.constants row) throwables.super_class row.super_name
  pub init_name : HasText (throwables.constants row) throwables.init_name (codes "<init>")
  pub init_type : HasText (throwables.constants row) throwables.init_type (codes "()V")
  pub super_init : method_reference_at (throwables.constants row) throwables.super_init
      ≡ Some (member row.super_name (codes "<init>") (codes "()V"))
  pub message_init_type : HasText (throwables.constants row) throwables.message_init_type (codes "(Ljava/lang/String;)V")
  pub super_message_init : method_reference_at (throwables.constants row) throwables.super_message_init
      ≡ Some (member row.super_name (codes "<init>") (codes "(Ljava/lang/String;)V"))
  pub code_name : HasText (throwables.constants row) throwables.code_name (codes "Code")

-- ---- code: where instructions stand, where they jump, and how many bytes those with frames have

abbrev pub size : Body → ℕ
size body = length (flat_map insn_bytes body.code)

pub record CodeRows : Type 0 where
  pub object_init : offsets 0 object.init_body.code ≡ 0 ∷ []
  pub object_equals : offsets 0 object.equals_body.code ≡ 0 ∷ 1 ∷ 2 ∷ 5 ∷ 6 ∷ 7 ∷ 8 ∷ []
  pub object_equals_label : targets 0 object.equals_body.code ≡ Some 7 ∷ []
  pub object_equals_size : size object.equals_body ≡ 9
  pub length : offsets 0 string.length_body.code ≡ 0 ∷ 1 ∷ 4 ∷ 5 ∷ []
  pub char_at : offsets 0 string.char_at_body.code ≡ 0 ∷ 1 ∷ 4 ∷ 5 ∷ 6 ∷ []
  pub hash_code : offsets 0 string.hash_code_body.code
      ≡ 0 ∷ 1 ∷ 2 ∷ 3 ∷ 4 ∷ 5 ∷ 6 ∷ 9 ∷ 10 ∷ 13 ∷ 15 ∷ 16 ∷ 17 ∷ 18 ∷ 21 ∷ 22 ∷ 23 ∷ 24 ∷ 25 ∷ 28 ∷ 31 ∷ 32 ∷ []
  pub hash_code_labels : targets 0 string.hash_code_body.code ≡ Some 31 ∷ Some 4 ∷ []
  pub hash_code_size : size string.hash_code_body ≡ 33
  pub equals : offsets 0 string.equals_body.code
      ≡ 0 ∷ 1 ∷ 4 ∷ 7 ∷ 8 ∷ 9 ∷ 10 ∷ 13 ∷ 14 ∷ 15 ∷ 18 ∷ 19 ∷ 20 ∷ 23 ∷ 24 ∷ 27 ∷ 28 ∷ 29 ∷ 30 ∷ 31 ∷ 32 ∷ 33 ∷ 36 ∷ 37 ∷ 40 ∷ 41 ∷ 44 ∷ 45
      ∷ 46 ∷ 47 ∷ 50 ∷ 51 ∷ 52 ∷ 55 ∷ 56 ∷ 57 ∷ 60 ∷ 63 ∷ 64 ∷ []
  pub equals_labels : targets 0 string.equals_body.code ≡ Some 9 ∷ Some 29 ∷ Some 63 ∷ Some 57 ∷ Some 31 ∷ []
  pub equals_size : size string.equals_body ≡ 65
  pub throwable_init : offsets 0 throwable.init_body.code ≡ 0 ∷ 1 ∷ 4 ∷ []
  pub throwable_message : offsets 0 throwable.message_init_body.code ≡ 0 ∷ 1 ∷ 4 ∷ 5 ∷ 6 ∷ 9 ∷ []
  pub get_message : offsets 0 throwable.get_message_body.code ≡ 0 ∷ 1 ∷ 4 ∷ []
  pub row_init : offsets 0 throwables.init_body.code ≡ 0 ∷ 1 ∷ 4 ∷ []
  pub row_message : offsets 0 throwables.message_init_body.code ≡ 0 ∷ 1 ∷ 2 ∷ 5 ∷ []

-- ---- the classes

abbrev pub names : List (List ℕ)
names = map (λ c. c.name) system_classes

-- none is like a later one
abbrev pub all_differ : List (List ℕ) → Bool
all_differ [] = true
all_differ (name ∷ others) = not (list_any (bytes_eq name) others) && all_differ others

-- names that no file of a guest may take (own)
abbrev pub is_reserved : List ℕ → Bool
is_reserved name = starts_with nat_eq name (codes "java/") || starts_with nat_eq name (codes "host/")

abbrev pub is_name : List ℕ → Bool
is_name name = list_any (bytes_eq name) names

abbrev pub is_super : Option (List ℕ) → Bool
is_super None = true
is_super (Some name) = is_name name

abbrev pub has_supers : Class → Bool
has_supers c = is_super c.super_class && list_all is_name c.interfaces

pub record ClassRows : Type 0 where
  pub with_files : length classes_with_files ≡ 32
  pub all : length system_classes ≡ 33
  pub differ : IsTrue (all_differ names)
  pub reserved : IsTrue (list_all is_reserved names)
  -- the supers of each are among them
  pub supers : IsTrue (list_all has_supers system_classes)

pub record WorkedRows : Type 0 where
  pub object : ObjectIndices
  pub string : StringIndices
  pub throwable : ThrowableIndices
  pub interface : (name : List ℕ) → InterfaceIndices name
  pub row : (row : throwables.ThrowableRow) → RowIndices row
  pub code : CodeRows
  pub classes : ClassRows
