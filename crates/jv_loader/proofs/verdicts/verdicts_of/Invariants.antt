use Rattle.std.proofs.Common.{◌≡◌, map, take}
use Rattle.jv_loader.specs.Inside.Files.{verdict_of_entry}
use Rattle.jv_loader.specs.Inside.Finals.{AreTold}
use Rattle.jv_loader.proofs.verdicts.verdicts_of.Given as goal

abbrev pub invariant-loop-entry : goal.invariant-loop-entry
invariant-loop-entry l = AreTold l.table l.finals × (l.verdicts.items ≡ map (verdict_of_entry l.table) (take l.entry-index l.entries))
