use Rattle.jv_interp_control.specs.Inside.Passing.{PassesUpTo}
use Rattle.jv_interp_control.proofs.passing.pass_frames.Given as goal

abbrev pub invariant-loop-step : goal.invariant-loop-step
invariant-loop-step l = PassesUpTo l.classes.world l.count l.step l.fn.frames l.fn.control l.frames l.control
