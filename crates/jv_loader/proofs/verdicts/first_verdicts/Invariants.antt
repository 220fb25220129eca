use Rattle.jv_loader.specs.FirstVerdicts.{AreVerdictsOnFirst}
use Rattle.jv_loader.specs.Inside.Finals.{AreTold}
use Rattle.jv_loader.proofs.verdicts.first_verdicts.Given as goal

abbrev pub invariant-loop-number : goal.invariant-loop-number
invariant-loop-number l = AreTold l.table l.finals × AreVerdictsOnFirst l.table l.number l.verdicts.items
