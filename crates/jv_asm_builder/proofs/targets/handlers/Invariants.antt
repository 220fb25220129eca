use Rattle.std.proofs.Common.{◌≡◌, drop}
use Rattle.jv_asm_builder.specs.Faults.{each}
use Rattle.jv_asm_builder.specs.Assembly.{handler_in}
use Rattle.jv_asm_builder.specs.Inside.Behind.{with_front}
use Rattle.jv_asm_builder.proofs.targets.handlers.Given as goal

abbrev pub invariant-loop-labels : goal.invariant-loop-labels
invariant-loop-labels l = with_front (l.table.items) (each (handler_in l.places) (drop l.labels-index l.handlers)) ≡ each (handler_in l.places) l.handlers
