use Rattle.std.proofs.Common.{◌<◌, ℕ, false, IsTrue, get_or}
use Rattle.jv_classes.proofs.relation.is_within.Given as goal

abbrev pub invariant-loop-to : goal.invariant-loop-to
invariant-loop-to l = (k : ℕ) → k < l.to → IsTrue (get_or l.row k false) → IsTrue (get_or l.marks k false)
