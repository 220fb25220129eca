use Rattle.std.proofs.Common.{◌≡◌, length}
use Rattle.std.specs.List.{list_all}
use Rattle.jv_code.specs.Switches.{pairs_in}
use Rattle.jv_meaning_typing.specs.Environment.{Environment}
use Rattle.jv_verify_types.specs.Numbered.{frame_of}
use Rattle.jv_verify_pass.specs.Pass.{IsOfPass, maps_of, names_in}
use Rattle.jv_verify_pass.specs.Inside.Seen.{StaysSeen}
use Rattle.jv_verify_pass.specs.Inside.Walk.{pair_holds}
use Rattle.jv_verify_pass.proofs.targets.pairs_hold.Given as goal

abbrev pub invariant-loop-key : goal.invariant-loop-key
invariant-loop-key l =
    ((env : Environment) → IsOfPass l.pass env
    → list_all (pair_holds env (maps_of l.pass) (frame_of (names_in l.pass) l.frame) l.offset) (pairs_in l.pairs)
    ≡ list_all (pair_holds env (maps_of l.pass) (frame_of (names_in l.pass) l.frame) l.offset) (pairs_in l.left))
    × StaysSeen l.pass l.frame l.fn.seen l.seen

abbrev pub decreases-loop-key : goal.decreases-loop-key
decreases-loop-key l = length l.left
