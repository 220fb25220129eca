use Rattle.std.proofs.Common.{◌≡◌, true, take}
use Rattle.std.specs.List.{list_all}
use Rattle.jv_format.specs.Handlers.{handlers_of}
use Rattle.jv_meaning_typing.specs.Environment.{Environment}
use Rattle.jv_meaning_typing.specs.Typing.{catches_throwable}
use Rattle.jv_verify_pass.specs.Inside.Parts.{HasConstants}
use Rattle.jv_verify_pass.proofs.catching.catch_throwables.Given as goal

abbrev pub invariant-loop-place : goal.invariant-loop-place
invariant-loop-place l = (env : Environment) → HasConstants l.constants env → list_all (catches_throwable env) (take l.place (handlers_of l.handlers)) ≡ true
