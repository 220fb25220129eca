use Rattle.std.proofs.Common.{◌≡◌, true, take}
use Rattle.std.specs.List.{list_all}
use Rattle.jv_meaning_typing.specs.Environment.{Environment}
use Rattle.jv_verify_pass.specs.Inside.Parts.{HasCode, frame_stands}
use Rattle.jv_verify_pass.proofs.standing.frames_stand.Given as goal

abbrev pub invariant-loop-place : goal.invariant-loop-place
invariant-loop-place l = (env : Environment) → HasCode l.code.bytes.now env → list_all (frame_stands env) (take l.place l.frames) ≡ true
