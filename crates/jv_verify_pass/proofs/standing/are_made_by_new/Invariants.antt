use Rattle.std.proofs.Common.{◌≡◌, length}
use Rattle.std.specs.List.{list_all}
use Rattle.jv_meaning_typing.specs.Environment.{Environment}
use Rattle.jv_verify_pass.specs.Inside.Parts.{HasCode, is_made_by_new}
use Rattle.jv_verify_pass.proofs.standing.are_made_by_new.Given as goal

abbrev pub invariant-loop-entry : goal.invariant-loop-entry
invariant-loop-entry l = (env : Environment) → HasCode l.code.bytes.now env → list_all (is_made_by_new env) l.initial.entries ≡ list_all (is_made_by_new env) l.entries

abbrev pub decreases-loop-entry : goal.decreases-loop-entry
decreases-loop-entry l = length l.entries
