use Rattle.std.proofs.Common.{Bool, true, not, ◌&&◌, ◌||◌, None, sym, ap, subst, ◌∙◌}
use Rattle.jv_verify_types.specs.Mapped.{has_uninitialized_this, locals_flow_to}
use Rattle.jv_verify_known.specs.Known.{IsFrameAt}
use Rattle.jv_verify_pass.specs.Pass.{Pass}
use Rattle.jv_verify_pass.proofs.Rooms.{frame_at}
use Rattle.jv_verify_pass.proofs.Seeing.{flag_not, last_flow, none_flow}
use Rattle.jv_verify_pass.proofs.merging.flows_by_stack.Goals as goal

pub returns-then-not-stack-clause-flows : goal.returns-then-not-stack-clause-flows
returns-then-not-stack-clause-flows c =
    let types = c.args.pass.now.types in
    let f = c.args.frame.now in
    let map = c.args.map.now in
    none_flow (not f.flag_this_uninit || has_uninitialized_this types map) (locals_flow_to types f None map)
    ∙ ap (λ (b : Bool). locals_flow_to types f None map && b && (not f.flag_this_uninit || has_uninitialized_this types map)) (sym c.if-not-stack.true ∙ c.requires.stack)

pub returns-then-not-flag_flows-clause-flows : goal.returns-then-not-flag_flows-clause-flows
returns-then-not-flag_flows-clause-flows c =
    let pass = c.args.pass.now in
    let types = pass.types in
    let f = c.args.frame.now in
    let map = c.args.map.now in
    flag_not true (locals_flow_to types f None map)
    ∙ (ap (λ (b : Bool). locals_flow_to types f None map && true && b)
    (c.if-not-flag_flows.ensures types map (frame_at pass c.args.seen.now.known.words c.requires.seen.1.words c.args.place map c.requires.at))
    ∙ ap (λ (b : Bool). locals_flow_to types f None map && b && (not f.flag_this_uninit || has_uninitialized_this types map)) (sym c.if-not-stack.false ∙ c.requires.stack))

pub returns-clause-flows : goal.returns-clause-flows
returns-clause-flows c =
    let pass = c.args.pass.now in
    let types = pass.types in
    let f = c.args.frame.now in
    let map = c.args.map.now in
    let at = frame_at pass c.args.seen.now.known.words c.requires.seen.1.words c.args.place map c.requires.at in
    c.locals_flow.ensures.flows map (subst (λ (p : Pass). IsFrameAt p.types c.args.seen.now.known.words c.args.place map) (sym c.pass.view_is) at)
    ∙ (ap (λ (p : Pass). locals_flow_to p.types f None map) c.pass.view_is
    ∙ (last_flow (locals_flow_to types f None map)
    ∙ (ap (λ (b : Bool). locals_flow_to types f None map && true && b) (c.if-not-flag_flows.ensures types map at)
    ∙ ap (λ (b : Bool). locals_flow_to types f None map && b && (not f.flag_this_uninit || has_uninitialized_this types map)) (sym c.if-not-stack.false ∙ c.requires.stack))))
