use Rattle.std.proofs.Common.{◌≡◌, length, reverse}
use Rattle.std.specs.List.{list_any}
use Rattle.jv_stackmap.specs.Frames.{is_uninitialized_this}
use Rattle.jv_verify_types.specs.Mapped.{types_of_entries}
use Rattle.jv_verify_flow.proofs.frame_flow.has_this.Given as goal

abbrev pub invariant-loop-entry : goal.invariant-loop-entry
invariant-loop-entry l = list_any is_uninitialized_this (reverse (types_of_entries l.types l.map.locals)) ≡ list_any is_uninitialized_this (types_of_entries l.types l.entries)

abbrev pub decreases-loop-entry : goal.decreases-loop-entry
decreases-loop-entry l = length l.entries
