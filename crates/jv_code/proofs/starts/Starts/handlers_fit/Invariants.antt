use Rattle.std.proofs.Common.{take}
use Rattle.std.specs.List.{All}
use Rattle.jv_format.specs.Handlers.{handlers_of}
use Rattle.jv_code.specs.Handlers.{HandlerFits}
use Rattle.jv_code.proofs.starts.Starts.handlers_fit.Given as goal

abbrev pub invariant-loop-place : goal.invariant-loop-place
invariant-loop-place l = All (HandlerFits l.self) (take l.place (handlers_of l.table))
