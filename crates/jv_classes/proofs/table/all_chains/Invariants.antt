use Rattle.jv_classes.specs.Inside.Told.{AreChains}
use Rattle.jv_classes.proofs.table.all_chains.Given as goal

abbrev pub invariant-loop-number : goal.invariant-loop-number
invariant-loop-number l = AreChains l.classes l.number l.chains.items
