use Rattle.std.proofs.Common.{◌≡◌, length}
use Rattle.jv_interp.proofs.FirstStates.{AreStatesBelow}
use Rattle.jv_interp.proofs.states.start_states.Given as goal

abbrev pub invariant-loop-class : goal.invariant-loop-class
invariant-loop-class l = (length l.states.items ≡ l.class) × AreStatesBelow l.table l.class l.states.items
