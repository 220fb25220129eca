use Rattle.std.proofs.Common.{◌≡◌, ℕ, ◌<◌, true}
use Rattle.std.specs.Prelude.{slice_get}
use Rattle.jv_meaning_world.specs.Flow.{flows}
use Rattle.jv_verify_types.specs.Typed.{typed_all}
use Rattle.jv_verify_pass.specs.Inside.Unlike.{both_flow}
use Rattle.jv_verify_pass.proofs.difference.first_local.Given as goal

abbrev pub invariant-loop-index : goal.invariant-loop-index
invariant-loop-index l =
    (j : ℕ) → j < l.index
    → both_flow (flows l.names.world) (slice_get (typed_all l.names.names l.frame.locals) j) (slice_get (typed_all l.names.names l.map.locals) j) ≡ true
