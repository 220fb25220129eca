-- What the fields and methods that were read stand for.
use Rattle.std.specs.Prelude.{ℕ, List, map}
use Rattle.std.specs.Option.{option_map}
use Rattle.std.specs.Borrow.{Bor}
use Rattle.jv_pool.specs.declared.index.ClassIndex.{ClassIndex}
use Rattle.jv_class_structure.specs.declared.member.Field.{Field}
use Rattle.jv_class_structure.specs.declared.member.MethodCode.{MethodCode}
use Rattle.jv_class_structure.specs.declared.member.PackedCode.{PackedCode}
use Rattle.jv_class_structure.specs.declared.member.Method.{Method}
use Rattle.jv_format.specs.Handlers.{handlers_of}
use Rattle.jv_class_structure.specs.Parts.{FieldSeen, CodeSeen, MethodSeen}
use Rattle.jv_class_structure.specs.Packed.{code_in, map_in}

abbrev pub seen_index : ClassIndex → ℕ
seen_index i = i.0

abbrev pub seen_field : Field → FieldSeen
seen_field f = record {
  access_flags = f.access_flags.0;
  name_index = f.name.0;
  descriptor_index = f.descriptor.0;
  constant_value = f.constant_value;
}

abbrev pub seen_bytes : Bor (List ℕ) → List ℕ
seen_bytes bytes = bytes.now

abbrev pub seen_code : MethodCode → CodeSeen
seen_code c = record {
  max_stack = c.max_stack;
  max_locals = c.max_locals;
  code = c.code.now;
  exception_table = handlers_of c.exception_table;
  stack_map_table = option_map seen_bytes c.stack_map_table;
}

-- the code whose bytes are kept so
abbrev pub unpacked : PackedCode → CodeSeen
unpacked p = code_in p.contents.now (map_in p.contents.now p.map_place p.map_length)

abbrev pub seen_method : Method → MethodSeen
seen_method m = record {
  access_flags = m.access_flags.0;
  name_index = m.name.0;
  descriptor_index = m.descriptor.0;
  code = option_map unpacked m.code;
}

abbrev pub seen_fields : List Field → List FieldSeen
seen_fields fields = map seen_field fields
