use Rattle.std.proofs.Common.{◌≡◌, take}
use Rattle.std.specs.List.{list_all}
use Rattle.jv_meaning_typing.specs.Environment.{Environment}
use Rattle.jv_verify_pass.specs.Inside.Parts.{HasCode, is_made_by_new}
use Rattle.jv_verify_pass.proofs.standing.last_are_made.Given as goal

abbrev pub invariant-loop-left : goal.invariant-loop-left
invariant-loop-left l =
    (env : Environment) → HasCode l.code.bytes.now env
    → list_all (is_made_by_new env) (take l.count l.initial.entries) ≡ list_all (is_made_by_new env) (take l.left l.entries)

abbrev pub decreases-loop-left : goal.decreases-loop-left
decreases-loop-left l = l.left
