use Rattle.std.proofs.Common.{get_or, arith}
use Rattle.std.proofs.lemmas.Grind.{common_steps}
use Rattle.jv_asm_builder.specs.Assembly.{handler_in}
use Rattle.jv_asm_builder.specs.Faults.{each}
use Rattle.jv_asm_builder.proofs.Answers.{fault_answer, each_next, each_stops}
use Rattle.jv_asm_builder.proofs.targets.handlers.Goals as goal

pub returns-in_err-next : goal.returns-in_err-next
returns-in_err-next c =
    let all = each (handler_in c.args.places.now) c.args.handlers.now in
    fault_answer ((handler_in c.args.places.now) (get_or c.args.handlers.now c.loop-labels.labels-index _)) all (λ v. v.items) c.from_residual.result c.in_err-next.field-0.0 c.from_residual.ensures.1
    (λ e. each_stops (handler_in c.args.places.now) c.args.handlers.now c.loop-labels.labels-index _ c.loop-labels-test.true c.loop-labels.table.items
    c.in_err-next.field-0.0 all e c.loop-labels.invariant)
    (c.in_err-next.ensures {u = tt})

pub loop-labels-preserved : goal.loop-labels-preserved
loop-labels-preserved c =
    each_next (handler_in c.args.places.now) c.args.handlers.now c.loop-labels.labels-index _ c.loop-labels-test.true c.loop-labels.table.items c.push.new.self.items c.in_ok-next.next
    (each (handler_in c.args.places.now) c.args.handlers.now) c.in_ok-push.ensures.items (c.in_ok-next.ensures {u = tt}) c.loop-labels.invariant

pub returns : goal.returns
returns c = grind (arith, common_steps)
