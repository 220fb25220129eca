use Rattle.std.proofs.Common.{◌≡◌, take}
use Rattle.jv_format.specs.Handlers.{handlers_of}
use Rattle.jv_verify_pass.proofs.opening.listed.Given as goal

abbrev pub invariant-loop-place : goal.invariant-loop-place
invariant-loop-place l = l.list.items ≡ take l.place (handlers_of l.fn.handlers)
