use Rattle.std.proofs.Common.{◌≡◌, drop}
use Rattle.jv_asm_builder.specs.Faults.{each}
use Rattle.jv_asm_builder.specs.Assembly.{distance_in, case_in}
use Rattle.jv_asm_builder.specs.Inside.Behind.{with_front}
use Rattle.jv_asm_builder.proofs.targets.pairs.Given as goal

abbrev pub invariant-loop-case : goal.invariant-loop-case
invariant-loop-case l = with_front l.pairs.items (each (case_in (distance_in l.places l.at)) (drop l.case-index l.cases)) ≡ each (case_in (distance_in l.places l.at)) l.cases
