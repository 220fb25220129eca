use Rattle.std.proofs.Common.{◌≡◌, map, drop, length}
use Rattle.jv_asm_builder.specs.Assembly.{code_in, steps_end}
use Rattle.jv_asm_builder.specs.Inside.Behind.{steps_behind}
use Rattle.jv_asm_builder.specs.Inside.Kept.{step_kept}
use Rattle.jv_asm_builder.proofs.targets.code.Given as goal

abbrev pub invariant-loop-step : goal.invariant-loop-step
invariant-loop-step l = record {
  bytes : steps_behind l.places l.out.items (drop l.step-index (map step_kept l.steps)) ≡ code_in l.places (map step_kept l.steps);
  size : steps_end (length l.out.items) (drop l.step-index (map step_kept l.steps)) ≡ steps_end 0 (map step_kept l.steps);
}
