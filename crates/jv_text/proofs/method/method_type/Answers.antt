use Rattle.std.proofs.Common.{arith}
use Rattle.std.proofs.lemmas.Grind.{common_steps}
use Rattle.jv_text.proofs.Methods.{Front-no_parameter, Front-no_result}
use Rattle.jv_text.proofs.method.method_type.Goals as goal

pub returns-in_default-parameter_at-clause-bad : goal.returns-in_default-parameter_at-clause-bad
returns-in_default-parameter_at-clause-bad c = λ _.
    Front-no_parameter _ _ _ _ c.loop-rest.invariant (λ more e. absurd (grind (arith, common_steps, c.is_at_end.ensures.1 (more, e)))) c.in_default-parameter_at.ensures.none

pub returns-clause-bad : goal.returns-clause-bad
returns-clause-bad c = λ _.
    let end = c.is_at_end.ensures.0 (grind (arith, common_steps)) in
    Front-no_result _ _ _ _ c.loop-rest.invariant end.0 end.1 c.in-None.ensures.none

pub loop-rest-preserved : goal.loop-rest-preserved
loop-rest-preserved c = grind (arith, common_steps)

pub loop-rest-smaller : goal.loop-rest-smaller
loop-rest-smaller c = grind (arith, common_steps)

pub loop-rest-init : goal.loop-rest-init
loop-rest-init c = grind (arith, common_steps)
