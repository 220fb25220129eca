use Rattle.std.proofs.Common.{◌≡◌, ◌*◌, ◌≤◌, take, length}
use Rattle.std.specs.Prelude.{map}
use Rattle.std.specs.List.{flat_map}
use Rattle.jv_class_structure.specs.Structure.{attribute_bytes}
use Rattle.jv_asm.specs.Description.{described_attribute}
use Rattle.jv_asm.proofs.attribute.attributes_length.Given as goal

abbrev pub invariant-loop-attribute : goal.invariant-loop-attribute
invariant-loop-attribute l = record {
  sum : l.total ≡ length (flat_map attribute_bytes (map described_attribute (take l.attribute-index l.attributes)));
  small : l.total ≤ 8589934592 * l.attribute-index;
}
