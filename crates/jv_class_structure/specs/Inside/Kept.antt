-- What private values of the code stand for.
use Rattle.std.specs.Prelude.{◌≡◌, ℕ, zero, suc, ◌+◌, ◌≤◌, List, ◌++◌, length, map, Option, None, slice_get}
use Rattle.std.specs.List.{All}
use Rattle.std.specs.Option.{option_map}
use Rattle.std.specs.Borrow.{Bor}
use Rattle.jv_class_structure.specs.declared.attributes.Attribute.{Attribute}
use Rattle.jv_class_structure.specs.declared.attributes.FoundMap.{FoundMap}
use Rattle.jv_class_structure.specs.declared.member.PackedCode.{PackedCode}
use Rattle.jv_class_structure.specs.declared.method_list.KeptMethod.{KeptMethod}
use Rattle.jv_class_structure.specs.declared.method_list.MethodList.{MethodList}
use Rattle.jv_class_structure.specs.declared.body.Body.{Body}
use Rattle.jv_class_structure.specs.Structure.{AttributeInfo}
use Rattle.jv_class_structure.specs.Parts.{CodeSeen, MethodSeen}
use Rattle.jv_class_structure.specs.Seen.{seen_index, seen_bytes, seen_field, unpacked}
use Rattle.jv_class_structure.specs.Inside.Reading.{BodySeen}

abbrev pub seen_attribute : Attribute → AttributeInfo
seen_attribute a = record { attribute_name_index = a.name; info = a.info.now }

abbrev pub seen_map : Option (Bor (List ℕ)) → Option (List ℕ)
seen_map map = option_map seen_bytes map

abbrev pub found_info : FoundMap → List ℕ
found_info found = found.info.now

abbrev pub seen_found : Option FoundMap → Option (List ℕ)
seen_found map = option_map found_info map

abbrev pub seen_codes : Option PackedCode → Option CodeSeen
seen_codes code = option_map unpacked code

-- the code with a number, where the first has 1; no code has 0
abbrev pub numbered : List PackedCode → ℕ → Option PackedCode
numbered codes zero = None
numbered codes (suc place) = slice_get codes place

-- a method that is kept beside these codes, by the number of its own
abbrev pub seen_kept : List PackedCode → KeptMethod → MethodSeen
seen_kept codes m = record {
  access_flags = m.access_flags.0;
  name_index = m.name.0;
  descriptor_index = m.descriptor.0;
  code = seen_codes (numbered codes m.code);
}

abbrev pub seen_list : MethodList → List MethodSeen
seen_list list = map (seen_kept list.codes.items) list.kept.items

-- at most one code was added at the end
pub record IsOneMore (old new : List PackedCode) : Type 0 where
  pub more : List PackedCode
  pub joined : new ≡ old ++ more
  pub one : length new ≤ length old + 1

-- each number is 0 or a code's, and there are no more codes than methods
pub record AreNumbered (list : MethodList) : Type 0 where
  pub within : All (λ m. m.code ≤ length list.codes.items) list.kept.items
  pub few : length list.codes.items ≤ length list.kept.items

abbrev pub seen_body : Body → BodySeen
seen_body b = (
  (b.access_flags.0, (b.this_class, b.super_class)),
  (map seen_index b.interfaces.items, (map seen_field b.fields.items, (seen_list b.methods, 0))),
)
