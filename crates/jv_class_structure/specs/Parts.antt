-- What a class file's bytes behind its version spell (JVMS 4.1), before the rules on names, types and flags.
use Rattle.std.specs.Prelude.{◌≡◌, ℕ, List, ◌++◌, map, IsTrue, Option}
use Rattle.std.specs.Option.{option_map}
use Rattle.jv_format.specs.declared.handlers.Handler.{Handler}
use Rattle.jv_pool.specs.Constants.{Entry, pool_bytes}
use Rattle.jv_pool.specs.Rules.{IsPool}
use Rattle.jv_class_structure.specs.Structure.{CodeAttribute, FieldInfo, MethodInfo, ClassStructure, body_bytes, body_fits}
use Rattle.jv_class_structure.specs.Attributes.{sole, static_value, stack_maps, codes_of, attributes_keep_rules}

-- The bytes are those of the structure behind its version, which is this major version and 0: its pool is one, its numbers fit their
-- fields, and its attributes are those that may stand there.
pub record IsBehindVersion (major : ℕ) (bytes : List ℕ) (c : ClassStructure) : Type 0 where
  pub spelled : bytes ≡ pool_bytes c.constant_pool ++ body_bytes c
  pub version : (c.minor_version ≡ 0) × (c.major_version ≡ major)
  pub pool : IsPool (pool_bytes c.constant_pool) c.constant_pool
  pub fits : IsTrue (body_fits c)
  pub attributes : IsTrue (attributes_keep_rules c)

-- A law: bytes have one such structure at most.
abbrev pub OneBehindVersion : Type 0
OneBehindVersion =
    (major : ℕ) (bytes : List ℕ) (c d : ClassStructure) → IsBehindVersion major bytes c → IsBehindVersion major bytes d → c ≡ d

-- ---- what is shown of fields and methods

pub record FieldSeen : Type 0 where
  pub access_flags : ℕ
  pub name_index : ℕ
  pub descriptor_index : ℕ
  pub constant_value : Option ℕ

abbrev pub field_shown : List Entry → FieldInfo → FieldSeen
field_shown pool f = record {
  access_flags = f.access_flags;
  name_index = f.name_index;
  descriptor_index = f.descriptor_index;
  constant_value = static_value pool f;
}

pub record CodeSeen : Type 0 where
  pub max_stack : ℕ
  pub max_locals : ℕ
  pub code : List ℕ
  pub exception_table : List Handler
  pub stack_map_table : Option (List ℕ)

-- its handlers, and the contents of the StackMapTable where there is one
abbrev pub code_shown : List Entry → CodeAttribute → CodeSeen
code_shown pool c = record {
  max_stack = c.max_stack;
  max_locals = c.max_locals;
  code = c.code;
  exception_table = c.exception_table;
  stack_map_table = option_map (λ a. a.info) (sole (stack_maps pool c));
}

pub record MethodSeen : Type 0 where
  pub access_flags : ℕ
  pub name_index : ℕ
  pub descriptor_index : ℕ
  pub code : Option CodeSeen

abbrev pub method_shown : List Entry → MethodInfo → MethodSeen
method_shown pool m = record {
  access_flags = m.access_flags;
  name_index = m.name_index;
  descriptor_index = m.descriptor_index;
  code = option_map (code_shown pool) (sole (codes_of m));
}

-- those of a class
abbrev pub fields_of : ClassStructure → List FieldSeen
fields_of c = map (field_shown c.constant_pool) c.fields

abbrev pub methods_of : ClassStructure → List MethodSeen
methods_of c = map (method_shown c.constant_pool) c.methods
