use Rattle.std.proofs.Common.{◌≡◌, length}
use Rattle.jv_interp_objects.proofs.InTexts.{AreCountsBefore}
use Rattle.jv_interp_objects.proofs.texts.counts_of.Given as goal

abbrev pub invariant-loop-number : goal.invariant-loop-number
invariant-loop-number l = AreCountsBefore l.names l.counts.items × (length l.counts.items ≡ l.number)
