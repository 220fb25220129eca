use Rattle.std.proofs.Common.{◌≡◌, length}
use Rattle.std.specs.List.{list_all}
use Rattle.jv_code.specs.Switches.{distances_in}
use Rattle.jv_meaning_typing.specs.Environment.{Environment}
use Rattle.jv_verify_types.specs.Numbered.{frame_of}
use Rattle.jv_verify_pass.specs.Pass.{IsOfPass, maps_of, names_in}
use Rattle.jv_verify_pass.specs.Inside.Seen.{StaysSeen}
use Rattle.jv_verify_pass.specs.Inside.Walk.{distance_holds}
use Rattle.jv_verify_pass.proofs.targets.distances_hold.Given as goal

abbrev pub invariant-loop-distance : goal.invariant-loop-distance
invariant-loop-distance l =
    ((env : Environment) → IsOfPass l.pass env
    → list_all (distance_holds env (maps_of l.pass) (frame_of (names_in l.pass) l.frame) l.offset) (distances_in l.distances)
    ≡ list_all (distance_holds env (maps_of l.pass) (frame_of (names_in l.pass) l.frame) l.offset) (distances_in l.left))
    × StaysSeen l.pass l.frame l.fn.seen l.seen

abbrev pub decreases-loop-distance : goal.decreases-loop-distance
decreases-loop-distance l = length l.left
