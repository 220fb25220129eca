use Rattle.jv_interp_control.specs.Inside.Tasks.{PassesReady}
use Rattle.jv_interp_control.proofs.tasks.first_unready.Given as goal

abbrev pub invariant-loop-place : goal.invariant-loop-place
invariant-loop-place l = PassesReady l.states l.order l.start l.place
