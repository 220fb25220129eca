use Rattle.std.proofs.Common.{refl, subst}
use Rattle.jv_verify_pass.specs.Pass.{Pass}
use Rattle.jv_verify_pass.specs.Inside.Kept.{IsPass}
use Rattle.jv_verify_pass.proofs.FlowsInto.{flows_there}
use Rattle.jv_verify_pass.proofs.targets.flows_into.Goals as goal

pub returns-in-Some-clause-flows : goal.returns-in-Some-clause-flows
returns-in-Some-clause-flows c = λ env is.
    let pass = c.args.pass.now in
    let kept : IsPass pass c.pass.inside.initial.now c.pass.inside.words = subst (λ (p : Pass). IsPass p c.pass.inside.initial.now c.pass.inside.words) c.pass.view_is c.pass.invariant in
    flows_there pass c.pass.inside.initial.now c.pass.inside.words kept env is pass.types c.args.frame.now c.in-Some.map c.flows_by_stack.result _
    refl c.requires.seen.1.locals c.flows_by_stack.ensures.flows (c.in-Some.ensures.frame env is)

pub returns-in-Some-clause-seen : goal.returns-in-Some-clause-seen
returns-in-Some-clause-seen c = λ at seen.
    c.flows_by_stack.ensures.seen at (record { locals = seen.locals; few = seen.few; words = seen.words; known = seen.known; handled = seen.handled; stacks = c.flows-stack.ensures.stacks })
