use Rattle.std.proofs.Common.{◌≤◌, ◌-◌, Some}
use Rattle.jv_code.specs.Places.{IsStartOrEnd}
use Rattle.jv_meaning_typing.specs.Environment.{Environment}
use Rattle.jv_verify_types.specs.Numbered.{frame_of}
use Rattle.jv_verify_pass.specs.Pass.{IsOfPass, maps_of, names_in}
use Rattle.jv_verify_pass.specs.Inside.Seen.{IsSeen}
use Rattle.jv_verify_pass.specs.Inside.Walk.{AreBare, Reaches, Progress, when_falls}
use Rattle.jv_verify_pass.proofs.walk.walk.Given as goal

abbrev pub invariant-loop-offset : goal.invariant-loop-offset
invariant-loop-offset l =
    IsSeen l.pass l.seen l.offset l.frame
    × IsStartOrEnd l.pass.context.code l.offset
    × (l.offset ≤ l.end)
    × ((env : Environment) → IsOfPass l.pass env → Reaches env (maps_of l.pass) 0 (Some (frame_of (names_in l.pass) l.fn.frame))
    → Progress env (maps_of l.pass) l.offset (when_falls l.falls (frame_of (names_in l.pass) l.frame)))
    × AreBare l.pass l.offset l.bare_until

abbrev pub decreases-loop-offset : goal.decreases-loop-offset
decreases-loop-offset l = l.end - l.offset
