use Rattle.std.proofs.Common.{length, reverse}
use Rattle.std.specs.Option.{option_map}
use Rattle.jv_stackmap.specs.Frames.{expanded}
use Rattle.jv_meaning_world.specs.Flow.{flows}
use Rattle.jv_meaning_world.specs.FrameFlow.{all_flow}
use Rattle.jv_meaning_typing.specs.Rule.{without_object}
use Rattle.jv_verify_types.specs.Typed.{typed, typed_all}
use Rattle.jv_verify_types.specs.Mapped.{names_of_types, world_of_types, types_of_entries}
use Rattle.jv_verify_flow.specs.Inside.Behind.{FlowsBehind}
use Rattle.jv_verify_flow.proofs.frame_flow.locals_flow.Given as goal

abbrev pub invariant-loop-entry : goal.invariant-loop-entry
invariant-loop-entry l =
    let locals = without_object (option_map (typed (names_of_types l.types)) l.object) (typed_all (names_of_types l.types) l.frame.locals) in
    FlowsBehind (world_of_types l.types) locals
    (all_flow (flows (world_of_types l.types)) locals (expanded (length l.frame.locals) (reverse (types_of_entries l.types l.map.locals))))
    (types_of_entries l.types l.entries) l.at

abbrev pub decreases-loop-entry : goal.decreases-loop-entry
decreases-loop-entry l = length l.entries
