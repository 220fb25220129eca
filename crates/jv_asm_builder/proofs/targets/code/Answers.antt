use Rattle.std.proofs.lemmas.Grind.{common_steps}
use Rattle.std.proofs.Common.{map, sym, ◌∙◌, arith}
use Rattle.jv_asm_builder.specs.Assembly.{code_in}
use Rattle.jv_asm_builder.specs.Inside.Behind.{step_behind}
use Rattle.jv_asm_builder.specs.Inside.Kept.{step_kept}
use Rattle.jv_asm_builder.proofs.Answers.{fault_answer}
use Rattle.jv_asm_builder.proofs.Steps.{step_short, step_next, step_stops}
use Rattle.jv_asm_builder.proofs.targets.code.Goals as goal

pub put_step-requires : goal.put_step-requires
put_step-requires c =
    step_short step_kept c.args.steps.now c.loop-step.step-index c.step-item.result c.loop-step-test.true c.step-item.is c.args.places.now c.loop-step.out.items
    _ c.loop-step.invariant.size c.requires

pub returns-in_err-put_step : goal.returns-in_err-put_step
returns-in_err-put_step c =
    fault_answer (step_behind c.args.places.now c.loop-step.out.items (step_kept c.step-item.result)) (code_in c.args.places.now (map step_kept c.args.steps.now)) (λ v. v.items)
    c.from_residual.result c.in_err-put_step.field-0.0 c.from_residual.ensures.1
    (λ e. sym c.loop-step.invariant.bytes
    ∙ step_stops step_kept c.args.steps.now c.loop-step.step-index c.step-item.result c.loop-step-test.true c.step-item.is c.args.places.now c.loop-step.out.items
    c.in_err-put_step.field-0.0 e)
    (c.in_err-put_step.ensures {u = tt})

pub loop-step-preserved : goal.loop-step-preserved
loop-step-preserved c =
    let next = step_next step_kept c.args.steps.now c.loop-step.step-index c.step-item.result c.loop-step-test.true c.step-item.is c.args.places.now c.loop-step.out.items
    c.put_step.new.out.items (c.in_ok-put_step.ensures {u = tt}) in
    record { bytes = next.0 ∙ c.loop-step.invariant.bytes; size = next.1 ∙ c.loop-step.invariant.size }

pub returns : goal.returns
returns c = grind (arith, common_steps)
