use Rattle.std.proofs.Common.{◌≡◌, ℕ, ◌<◌, true}
use Rattle.std.specs.Prelude.{slice_get}
use Rattle.jv_meaning_world.specs.FrameFlow.{item_flows}
use Rattle.jv_verify_types.specs.Typed.{typed_all}
use Rattle.jv_verify_pass.specs.Inside.Unlike.{both_flow}
use Rattle.jv_verify_pass.proofs.difference.first_item.Given as goal

abbrev pub invariant-loop-depth : goal.invariant-loop-depth
invariant-loop-depth l =
    (j : ℕ) → j < l.depth
    → both_flow (item_flows l.names.world) (slice_get (typed_all l.names.names l.frame.stack) j) (slice_get (typed_all l.names.names l.map.stack) j) ≡ true
