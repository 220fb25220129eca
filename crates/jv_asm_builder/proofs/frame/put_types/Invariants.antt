use Rattle.std.proofs.Common.{◌≡◌, ◌++◌, map, take, length}
use Rattle.std.specs.List.{flat_map}
use Rattle.jv_format.specs.Format.{half}
use Rattle.jv_stackmap.specs.Bytes.{item_bytes}
use Rattle.jv_asm_builder.specs.Assembly.{stack_map_type}
use Rattle.jv_asm_builder.proofs.frame.put_types.Given as goal

abbrev pub invariant-loop-entry : goal.invariant-loop-entry
invariant-loop-entry l = l.out.items ≡ (l.fn.out.items ++ half.spelling (length l.entries)) ++ flat_map item_bytes (map stack_map_type (take l.entry-index l.entries))
