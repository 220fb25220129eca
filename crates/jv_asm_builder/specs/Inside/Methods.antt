-- The methods that a class builder keeps, as those of a class structure (JVMS 4.6, 4.7.3, 4.7.4).
use Rattle.std.specs.Prelude.{List, [], ◌∷◌, Option, Some, None, ℕ}
use Rattle.jv_class_structure.specs.Structure.{AttributeInfo, MethodAttribute, Code, MethodInfo, ClassStructure}
use Rattle.jv_asm_builder.specs.declared.built.StackMap.{StackMap}
use Rattle.jv_asm_builder.specs.declared.built.BuiltCode.{BuiltCode}
use Rattle.jv_asm_builder.specs.declared.built.BuiltMethod.{BuiltMethod}
use Rattle.jv_asm_builder.specs.Built.{IsStackMapAdded}

abbrev pub built_map : StackMap → AttributeInfo
built_map m = record { attribute_name_index = m.name_index; info = m.contents.items }

abbrev pub built_maps : Option StackMap → List AttributeInfo
built_maps None = []
built_maps (Some m) = built_map m ∷ []

abbrev pub coded : BuiltCode → List AttributeInfo → MethodAttribute
coded c attributes = Code c.name_index (record {
  max_stack = c.max_stack;
  max_locals = c.max_locals;
  code = c.code.items;
  exception_table = c.exception_table.items;
  attributes = attributes;
})

abbrev pub with_attributes : BuiltMethod → List MethodAttribute → MethodInfo
with_attributes m attributes = record {
  access_flags = m.access_flags;
  name_index = m.name_index;
  descriptor_index = m.descriptor_index;
  attributes = attributes;
}

abbrev pub with_code : BuiltMethod → BuiltCode → MethodInfo
with_code m c = with_attributes m (coded c (built_maps c.stack_map) ∷ [])

abbrev pub built_attributes : Option BuiltCode → List MethodAttribute
built_attributes None = []
built_attributes (Some c) = coded c (built_maps c.stack_map) ∷ []

abbrev pub built_method : BuiltMethod → MethodInfo
built_method m = with_attributes m (built_attributes m.code)

-- the stack map with these contents, if there are some
abbrev pub AddsStackMap : ClassStructure → Option (List ℕ) → ClassStructure → Option StackMap → Type 0
AddsStackMap old contents new map = IsStackMapAdded old.constant_pool contents new.constant_pool (built_maps map)
