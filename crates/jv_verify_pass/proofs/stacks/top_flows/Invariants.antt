use Rattle.jv_meaning_world.specs.FrameFlow.{item_flows}
use Rattle.jv_verify_types.specs.Mapped.{names_of_types, world_of_types, types_of_entries}
use Rattle.jv_verify_pass.proofs.FlowingStacks.{TopLeft}
use Rattle.jv_verify_pass.proofs.stacks.top_flows.Given as goal

abbrev pub invariant-loop-depth : goal.invariant-loop-depth
invariant-loop-depth l =
    TopLeft (item_flows (world_of_types l.types)) (names_of_types l.types) l.frame.stack (types_of_entries l.types l.map.stack) l.count l.depth (types_of_entries l.types l.entries)
