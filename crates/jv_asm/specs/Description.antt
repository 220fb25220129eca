-- The structure that a description of a class file stands for: the same parts, slices seen as lists.
use Rattle.std.specs.Prelude.{List, map}
use Rattle.jv_pool.specs.Seen.{seen}
use Rattle.jv_class_structure.specs.Structure.{AttributeInfo, CodeAttribute, MethodAttribute, Code, Other, FieldInfo, MethodInfo, ClassStructure}
use Rattle.jv_asm.specs.declared.description.AttributeDescription.{AttributeDescription}
use Rattle.jv_asm.specs.declared.description.CodeDescription.{CodeDescription}
use Rattle.jv_asm.specs.declared.description.MethodAttributeDescription.{MethodAttributeDescription}
use Rattle.jv_asm.specs.declared.description.MethodAttributeDescription.TheVariants as described_as
use Rattle.jv_asm.specs.declared.description.FieldDescription.{FieldDescription}
use Rattle.jv_asm.specs.declared.description.MethodDescription.{MethodDescription}
use Rattle.jv_asm.specs.declared.description.Description.{Description}

abbrev pub described_attribute : AttributeDescription → AttributeInfo
described_attribute a = record { attribute_name_index = a.attribute_name_index; info = a.info.now }

abbrev pub described_code : CodeDescription → CodeAttribute
described_code c = record {
  max_stack = c.max_stack;
  max_locals = c.max_locals;
  code = c.code.now;
  exception_table = c.exception_table.now;
  attributes = map described_attribute c.attributes.now;
}

abbrev pub described_method_attribute : MethodAttributeDescription → MethodAttribute
described_method_attribute (described_as.Code name code) = Code name (described_code code)
described_method_attribute (described_as.Other attribute) = Other (described_attribute attribute)

abbrev pub described_field : FieldDescription → FieldInfo
described_field f = record {
  access_flags = f.access_flags;
  name_index = f.name_index;
  descriptor_index = f.descriptor_index;
  attributes = map described_attribute f.attributes.now;
}

abbrev pub described_method : MethodDescription → MethodInfo
described_method m = record {
  access_flags = m.access_flags;
  name_index = m.name_index;
  descriptor_index = m.descriptor_index;
  attributes = map described_method_attribute m.attributes.now;
}

abbrev pub described_class : Description → ClassStructure
described_class d = record {
  minor_version = d.minor_version;
  major_version = d.major_version;
  constant_pool = map seen d.constant_pool.now;
  access_flags = d.access_flags;
  this_class = d.this_class;
  super_class = d.super_class;
  interfaces = d.interfaces.now;
  fields = map described_field d.fields.now;
  methods = map described_method d.methods.now;
  attributes = map described_attribute d.attributes.now;
}

-- a structure with other methods
abbrev pub with_methods : ClassStructure → List MethodInfo → ClassStructure
with_methods c methods = record c { methods = methods }

abbrev pub described_all : List AttributeDescription → List AttributeInfo
described_all attributes = map described_attribute attributes

-- the structure with these methods in the place of its own
abbrev pub described_with : Description → List MethodInfo → ClassStructure
described_with description methods = with_methods (described_class description) methods
