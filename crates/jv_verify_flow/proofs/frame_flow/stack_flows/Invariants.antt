use Rattle.std.proofs.Common.{length}
use Rattle.jv_meaning_world.specs.FrameFlow.{item_flows}
use Rattle.jv_verify_types.specs.Typed.{typed_all}
use Rattle.jv_verify_types.specs.Mapped.{names_of_types, world_of_types, types_of_entries}
use Rattle.jv_verify_flow.specs.Inside.Behind.{ItemsFlow}
use Rattle.jv_verify_flow.proofs.frame_flow.stack_flows.Given as goal

abbrev pub invariant-loop-entry : goal.invariant-loop-entry
invariant-loop-entry l =
    ItemsFlow (item_flows (world_of_types l.types)) (typed_all (names_of_types l.types) l.frame.stack) (types_of_entries l.types l.map.stack) l.height l.left (types_of_entries l.types l.entries)

abbrev pub decreases-loop-entry : goal.decreases-loop-entry
decreases-loop-entry l = length l.entries
