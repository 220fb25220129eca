use Rattle.std.proofs.Common.{get_or, inr, sym, arith}
use Rattle.std.proofs.lemmas.Grind.{common_steps}
use Rattle.jv_asm_builder.specs.Assembly.{distance_in}
use Rattle.jv_asm_builder.specs.Faults.{each}
use Rattle.jv_asm_builder.proofs.Answers.{fault_answer, each_stops}
use Rattle.jv_asm_builder.proofs.targets.distances.Goals as goal

pub returns-in_err-next : goal.returns-in_err-next
returns-in_err-next c =
    let all = each (distance_in c.args.places.now c.args.at) c.args.labels.now in
    fault_answer ((distance_in c.args.places.now c.args.at) (get_or c.args.labels.now c.loop-label.label-index _)) all (λ v. v.items)
    c.from_residual.result c.in_err-next.field-0.0 c.from_residual.ensures.1
    (λ e. each_stops (distance_in c.args.places.now c.args.at) c.args.labels.now c.loop-label.label-index _ c.loop-label-test.true
    c.loop-label.distances.items c.in_err-next.field-0.0 all e c.loop-label.invariant)
    (inr (sym c.in_err-next.ensures))

pub loop-label-preserved : goal.loop-label-preserved
loop-label-preserved c = grind (arith, common_steps)

pub returns : goal.returns
returns c = grind (arith, common_steps)
