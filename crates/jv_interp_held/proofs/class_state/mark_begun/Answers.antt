use Rattle.std.proofs.Common.{rules}
use Rattle.jv_interp_held.proofs.class_state.mark_begun.Goals as goal

pub returns-then-not-by_system-clause-guests : goal.returns-then-not-by_system-clause-guests
returns-then-not-by_system-clause-guests c = search rules
