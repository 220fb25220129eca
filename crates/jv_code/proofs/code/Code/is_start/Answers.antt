use Rattle.std.proofs.Common.{arith, ◌++◌, ◌∷◌, []}
use Rattle.jv_code.proofs.Fronts.{Front-nil, Front-push, Front-place}
use Rattle.jv_code.proofs.OneCode.{code_of}
use Rattle.jv_code.proofs.StartLaws.{StartsBelow-nil, StartsBelow-push, search_fails, search_ends}
use Rattle.std.proofs.lemmas.Bool.{eqb-true}
use Rattle.std.proofs.lemmas.Bool.Decides.{nat_tests}
use Rattle.std.proofs.lemmas.Grind.{common_steps}
use Rattle.jv_code.proofs.code.Code.is_start.Goals as goal

pub loop-rest-init : goal.loop-rest-init
loop-rest-init c = ([], record { front = Front-nil _; below = StartsBelow-nil _ })

pub loop-rest-preserved : goal.loop-rest-preserved
loop-rest-preserved c =
    let s = c.loop-rest.invariant in
    let insn = c.in-Some.ensures.found in (
      s.0 ++ insn.0 ∷ [],
      record {
        front = Front-push _ _ _ _ _ insn.1 insn.2 s.1.front;
        below = StartsBelow-push _ _ _ (omega (arith, Front-place _ _ _ s.1.front, c.loop-rest-test.true)) s.1.below;
      },
    )

pub returns-in_default : goal.returns-in_default
returns-in_default c = (
  λ no. absurd cc,
  λ h. absurd (search_fails _ c.args.self.now.bytes.now c.loop-rest.rest.now c.args.pc h.0 c.in_default.ensures.none c.loop-rest.invariant.1 h.1),
)

pub returns-then-self-rest : goal.returns-then-self-rest
returns-then-self-rest c =
    let code = code_of c.args.self.now.bytes.now c.args.self.now.is_code in
    let s = search_ends code.0 _ c.args.self.now.bytes.now c.loop-rest.rest.now c.args.pc code.1 c.loop-rest-test.false c.loop-rest.invariant.1 in (
      λ t. let found = s.0 c.if-self-rest.true (grind (arith, common_steps, nat_tests)) in found,
      λ h. let lt = (s.1 h.0 h.1).1 in grind (arith, common_steps, nat_tests),
    )

pub returns-else-self-rest : goal.returns-else-self-rest
returns-else-self-rest c =
    let code = code_of c.args.self.now.bytes.now c.args.self.now.is_code in
    let s = search_ends code.0 _ c.args.self.now.bytes.now c.loop-rest.rest.now c.args.pc code.1 c.loop-rest-test.false c.loop-rest.invariant.1 in (
      λ t. absurd (c.if-self-rest.false (eqb-true _ _ t)),
      λ h. absurd (c.if-self-rest.false (s.1 h.0 h.1).0),
    )

pub loop-rest-smaller : goal.loop-rest-smaller
loop-rest-smaller c = grind (arith, common_steps)

pub overflow_sub-self-2 : goal.overflow_sub-self-2
overflow_sub-self-2 c = grind (arith, common_steps)

pub overflow_sub-self-in-loop-rest : goal.overflow_sub-self-in-loop-rest
overflow_sub-self-in-loop-rest c = grind (arith, common_steps)

pub overflow_sub-self : goal.overflow_sub-self
overflow_sub-self c = grind (arith, common_steps)
