use Rattle.std.proofs.Common.{◌≡◌, true, ap, sym, subst, ◌∙◌}
use Rattle.jv_verify_types.specs.Mapped.{stack_flows_to, stack_of}
use Rattle.jv_verify_pass.specs.Pass.{Pass}
use Rattle.jv_verify_pass.specs.Inside.Stacks.{Keeps}
use Rattle.jv_verify_pass.proofs.FlowingStacks.{kept_flowed}
use Rattle.jv_verify_pass.proofs.stacks.FlowedStacks.flows_first.Goals as goal

pub returns-then-not-stack_flows-clause-flows : goal.returns-then-not-stack_flows-clause-flows
returns-then-not-stack_flows-clause-flows c =
    sym c.if-not-stack_flows.true ∙ (c.stack_flows.ensures ∙ ap (λ (p : Pass). stack_flows_to p.types (stack_of p.types c.args.frame.now) c.args.map.now) c.pass.view_is)

pub returns-clause-flows : goal.returns-clause-flows
returns-clause-flows c =
    sym c.if-not-stack_flows.false ∙ (c.stack_flows.ensures ∙ ap (λ (p : Pass). stack_flows_to p.types (stack_of p.types c.args.frame.now) c.args.map.now) c.pass.view_is)

pub returns-clause-stacks : goal.returns-clause-stacks
returns-clause-stacks c =
    let pass = c.args.pass.now in
    let frame = c.args.frame.now in
    let map = c.args.map.now in
    let flow : stack_flows_to pass.types (stack_of pass.types frame) map ≡ true =
    sym (c.stack_flows.ensures ∙ ap (λ (p : Pass). stack_flows_to p.types (stack_of p.types frame) map) c.pass.view_is) ∙ c.if-not-stack_flows.false in
    let kept : Keeps pass.types map c.args.place c.height.result c.args.self.now.stacks.items c.keep.new.self.stacks.items =
    subst (λ (p : Pass). Keeps p.types map c.args.place c.height.result c.args.self.now.stacks.items c.keep.new.self.stacks.items) c.pass.view_is c.keep.ensures in
    kept_flowed pass c.args.self.now.stacks.items c.keep.new.self.stacks.items frame map c.args.place c.height.result kept c.requires.at c.height.ensures flow c.requires.stacks
