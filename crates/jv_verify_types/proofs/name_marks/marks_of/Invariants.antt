use Rattle.std.proofs.Common.{map, take}
use Rattle.jv_class_structure.specs.Seen.{seen_index}
use Rattle.jv_verify_types.specs.Inside.Marked.{AreMarkedAt}
use Rattle.jv_verify_types.proofs.name_marks.marks_of.Given as goal

abbrev pub invariant-loop-index : goal.invariant-loop-index
invariant-loop-index l = record { marked : AreMarkedAt l.constants.types.names l.constants.pool (map seen_index (take l.index-index l.indices)) l.marks.items }
