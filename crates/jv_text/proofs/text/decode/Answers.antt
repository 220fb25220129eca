use Rattle.std.proofs.Common.{arith}
use Rattle.std.proofs.lemmas.Grind.{common_steps}
use Rattle.jv_text.proofs.Texts.{Front-push, Front-all, Front-none}
use Rattle.jv_text.proofs.text.decode.Goals as goal

pub returns-in_default-clause-bad : goal.returns-in_default-clause-bad
returns-in_default-clause-bad c = λ _ h. Front-none _ _ _ (grind arith) c.in_default.ensures.none c.loop-rest.invariant h.0 h.1

pub loop-rest-preserved : goal.loop-rest-preserved
loop-rest-preserved c = rw c.in_ok-push.ensures.items (Front-push _ _ _ c.in-Some.unit _ c.in-Some.ensures.fits c.in-Some.ensures.found c.loop-rest.invariant)

pub returns-clause-ok : goal.returns-clause-ok
returns-clause-ok c = Front-all _ _ _ (grind arith) c.loop-rest.invariant

pub loop-rest-smaller : goal.loop-rest-smaller
loop-rest-smaller c = grind (arith, common_steps)
