-- Fields and methods of system classes: by their names, and as they stand in the class's file (JVMS 4.5 to 4.7).
use Rattle.std.specs.Prelude.{ℕ, List, [], ◌∷◌, Option, Some, None}
use Rattle.std.specs.List.{flat_map}
use Rattle.jv_code.specs.Insns.{Instruction, insn_bytes}
use Rattle.jv_class_structure.specs.Structure.{AttributeInfo, CodeAttribute, FieldInfo, MethodInfo}
use Rattle.jv_class_structure.specs.Structure.MethodAttribute.{Code}
use Rattle.jv_class_structure.specs.Parts.{CodeSeen}
use Rattle.jv_class.specs.Class.{Field, Method}

-- what a method does, with the least limits that verify
pub record Body : Type 0 where
  pub max_stack : ℕ
  pub max_locals : ℕ
  pub code : List Instruction

-- ---- by their names

abbrev pub field : ℕ → List ℕ → List ℕ → Field
field flags name descriptor = record { access_flags = flags; name = name; descriptor = descriptor; initial = None }

-- the code of a body, with the contents of its StackMapTable where it has one
abbrev pub body_seen : Body → Option (List ℕ) → CodeSeen
body_seen body frames = record {
  max_stack = body.max_stack;
  max_locals = body.max_locals;
  code = flat_map insn_bytes body.code;
  exception_table = [];
  stack_map_table = frames;
}

abbrev pub method : ℕ → List ℕ → List ℕ → Body → Option (List ℕ) → Method
method flags name descriptor body frames =
    record { access_flags = flags; name = name; descriptor = descriptor; code = Some (body_seen body frames) }

abbrev pub method_without_code : ℕ → List ℕ → List ℕ → Method
method_without_code flags name descriptor = record { access_flags = flags; name = name; descriptor = descriptor; code = None }

-- ---- in the file, where indices stand for names

abbrev pub attribute : ℕ → List ℕ → AttributeInfo
attribute name contents = record { attribute_name_index = name; info = contents }

abbrev pub field_info : ℕ → ℕ → ℕ → FieldInfo
field_info flags name descriptor = record { access_flags = flags; name_index = name; descriptor_index = descriptor; attributes = [] }

abbrev pub code_attribute : Body → List AttributeInfo → CodeAttribute
code_attribute body attributes = record {
  max_stack = body.max_stack;
  max_locals = body.max_locals;
  code = flat_map insn_bytes body.code;
  exception_table = [];
  attributes = attributes;
}

-- a method whose one attribute is its code, which has these attributes; `code_name` is the index of the name `Code`
abbrev pub method_info : ℕ → ℕ → ℕ → ℕ → Body → List AttributeInfo → MethodInfo
method_info flags name descriptor code_name body attributes = record {
  access_flags = flags;
  name_index = name;
  descriptor_index = descriptor;
  attributes = Code code_name (code_attribute body attributes) ∷ [];
}
