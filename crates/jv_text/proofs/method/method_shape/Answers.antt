use Rattle.std.proofs.Common.{arith, refl, ◌++◌, ◌∷◌, []}
use Rattle.std.proofs.lemmas.Grind.{common_steps}
use Rattle.jv_text.specs.Seen.{seen_field_type, seen_result}
use Rattle.jv_text.proofs.Methods.{Front-push, Front-method, Front-no_parameter, Front-no_result, floats_more, floats_all}
use Rattle.jv_text.proofs.method.method_shape.Goals as goal

pub returns-in_default-parameter_at-clause-bad : goal.returns-in_default-parameter_at-clause-bad
returns-in_default-parameter_at-clause-bad c =
    Front-no_parameter _ _ _ _ c.loop-rest.invariant.1 (λ more e. absurd (grind (arith, common_steps, c.is_at_end.ensures.1 (more, e)))) c.in_default-parameter_at.ensures.none

pub loop-rest-preserved : goal.loop-rest-preserved
loop-rest-preserved c = (
  c.loop-rest.invariant.0 ++ seen_field_type c.in-Some.parameter ∷ [],
  Front-push _ _ _ _ _ _ _ c.in-Some.ensures.fits c.in-Some.ensures.total c.in-Some.ensures.few c.in-Some.ensures.found c.loop-rest.invariant.1,
  floats_more c.loop-rest.invariant.0 (seen_field_type c.in-Some.parameter) c.loop-rest.floating _ c.or_floating-floating.ensures c.loop-rest.invariant.2,
)

pub returns-in-Some-result_type-clause-ok : goal.returns-in-Some-result_type-clause-ok
returns-in-Some-result_type-clause-ok c =
    record {
      method = record { parameters = c.loop-rest.invariant.0; result = seen_result c.in-Some-result_type.result };
      described = Front-method _ _ _ _ _ c.in-Some-result_type.ensures.fits c.in-Some-result_type.ensures.found c.loop-rest.invariant.1;
      counted = c.loop-rest.invariant.1.counted;
      floats = floats_all c.loop-rest.invariant.0 (seen_result c.in-Some-result_type.result) c.loop-rest.floating _ c.or_floating_result-floating.ensures c.loop-rest.invariant.2;
      given = refl;
    }

pub returns-in-None-clause-bad : goal.returns-in-None-clause-bad
returns-in-None-clause-bad c =
    let end = c.is_at_end.ensures.0 (grind (arith, common_steps)) in
    Front-no_result _ _ _ _ c.loop-rest.invariant.1 end.0 end.1 c.in-None.ensures.none

pub loop-rest-smaller : goal.loop-rest-smaller
loop-rest-smaller c = grind (arith, common_steps)

pub loop-rest-init : goal.loop-rest-init
loop-rest-init c = grind (arith, common_steps)
