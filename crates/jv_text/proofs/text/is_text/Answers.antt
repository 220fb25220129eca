use Rattle.std.proofs.Common.{arith, ◌++◌, ◌∷◌, [], refl}
use Rattle.std.proofs.lemmas.Grind.{common_steps}
use Rattle.jv_text.proofs.Texts.{Front-push, Front-all, Front-none}
use Rattle.jv_text.proofs.text.is_text.Goals as goal

pub returns-in_default : goal.returns-in_default
returns-in_default c = (λ no. absurd cc, λ h. absurd (Front-none _ _ _ (grind arith) c.in_default.ensures.none c.loop-rest.invariant.1 h.0 h.1))

pub loop-rest-preserved : goal.loop-rest-preserved
loop-rest-preserved c = (c.loop-rest.invariant.0 ++ c.in-Some._unit ∷ [], Front-push _ _ _ c.in-Some._unit _ c.in-Some.ensures.fits c.in-Some.ensures.found c.loop-rest.invariant.1)

pub returns : goal.returns
returns c = (λ _. (c.loop-rest.invariant.0, Front-all _ _ _ (grind arith) c.loop-rest.invariant.1), λ _. refl)

pub loop-rest-smaller : goal.loop-rest-smaller
loop-rest-smaller c = grind (arith, common_steps)
