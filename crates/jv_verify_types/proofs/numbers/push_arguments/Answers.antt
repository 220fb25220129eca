use Rattle.std.proofs.Common.{◌∙◌, subst}
use Rattle.jv_verify_types.specs.Inside.KeptTexts.{Joins}
use Rattle.jv_verify_types.proofs.Lasting.{through}
use Rattle.jv_verify_types.proofs.Arguments.{joins_more, one_more}
use Rattle.jv_verify_types.proofs.numbers.push_arguments.Goals as goal

pub loop-parameter-preserved : goal.loop-parameter-preserved
loop-parameter-preserved c = record {
  joins = subst (Joins _ _ _) (one_more _ _ _ c.loop-parameter-test.true)
      (joins_more c.loop-parameter.invariant.joins c.in_ok-push_argument.ensures.goes_on c.in_ok-push_argument.ensures.joins);
  goes_on = through c.loop-parameter.invariant.goes_on c.in_ok-push_argument.ensures.goes_on;
  world = c.in_ok-push_argument.ensures.world ∙ c.loop-parameter.invariant.world;
}
