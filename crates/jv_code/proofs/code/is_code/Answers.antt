use Rattle.std.proofs.lemmas.Grind.{common_steps}
use Rattle.std.proofs.Common.{arith, ◌++◌, ◌∷◌, []}
use Rattle.jv_code.proofs.Fronts.{Front-push, Front-none}
use Rattle.jv_code.proofs.code.is_code.Goals as goal

pub returns-in_default : goal.returns-in_default
returns-in_default c = (λ no. absurd cc, λ h. absurd (Front-none _ _ _ (grind arith) c.in_default.ensures.none c.loop-rest.invariant.1 h.0 h.1))

pub loop-rest-preserved : goal.loop-rest-preserved
loop-rest-preserved c =
    let insn = c.in-Some.ensures.found in (c.loop-rest.invariant.0 ++ insn.0 ∷ [], Front-push _ _ _ _ _ insn.1 insn.2 c.loop-rest.invariant.1)

pub returns : goal.returns
returns c = grind (arith, common_steps)

pub loop-rest-smaller : goal.loop-rest-smaller
loop-rest-smaller c = grind (arith, common_steps)

pub overflow_sub-bytes : goal.overflow_sub-bytes
overflow_sub-bytes c = grind (arith, common_steps)
