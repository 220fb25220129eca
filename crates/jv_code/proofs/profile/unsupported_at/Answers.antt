use Rattle.std.proofs.lemmas.Grind.{common_steps}
use Rattle.std.proofs.Common.{◌≡◌, sym, ◌∙◌, ◌++◌, ◌∷◌, [], true, false, arith}
use Rattle.jv_code.proofs.Fronts.{Front-push}
use Rattle.jv_code.proofs.Outside.{Front-unsupported, is_unsupported_at}
use Rattle.jv_code.proofs.profile.unsupported_at.Goals as goal

pub loop-after-preserved : goal.loop-after-preserved
loop-after-preserved c =
    let insn = c.in-Some.ensures.found in (c.loop-after.invariant.0 ++ insn.0 ∷ [], Front-push _ _ _ _ _ insn.1 insn.2 c.loop-after.invariant.1)

pub returns-then-front_unsupported-clause-found : goal.returns-then-front_unsupported-clause-found
returns-then-front_unsupported-clause-found c =
    is_unsupported_at c.loop-after.invariant.0 c.args.bytes.now c.loop-after.rest.now c.loop-after.invariant.1
    (sym c.front_unsupported.ensures ∙ c.if-front_unsupported.true)

pub returns-else-front_unsupported-clause-none : goal.returns-else-front_unsupported-clause-none
returns-else-front_unsupported-clause-none c = λ u.
    absurd (clash (sym (c.front_unsupported.ensures
    ∙ Front-unsupported c.loop-after.invariant.0 c.args.bytes.now c.loop-after.rest.now c.in_default.ensures.none c.loop-after.invariant.1 u) ∙ c.if-front_unsupported.false))
  where
    clash : true ≡ false → ⊥
    clash e = cc

pub loop-after-smaller : goal.loop-after-smaller
loop-after-smaller c = grind (arith, common_steps)

pub overflow_sub-bytes : goal.overflow_sub-bytes
overflow_sub-bytes c = grind (arith, common_steps)
