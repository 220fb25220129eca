use Rattle.std.proofs.Common.{◌≡◌, drop}
use Rattle.jv_asm_builder.specs.Faults.{each}
use Rattle.jv_asm_builder.specs.Assembly.{distance_in}
use Rattle.jv_asm_builder.specs.Inside.Behind.{with_front}
use Rattle.jv_asm_builder.proofs.targets.distances.Given as goal

abbrev pub invariant-loop-label : goal.invariant-loop-label
invariant-loop-label l = with_front l.distances.items (each (distance_in l.places l.at) (drop l.label-index l.labels)) ≡ each (distance_in l.places l.at) l.labels
