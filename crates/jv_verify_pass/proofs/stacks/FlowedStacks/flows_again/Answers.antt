use Rattle.std.proofs.Common.{◌≡◌, ◌-◌, true, List, length, take, set, refl, ap, sym, subst, ◌∙◌}
use Rattle.std.specs.Prelude.{slice_get}
use Rattle.std.specs.List.{All}
use Rattle.std.proofs.Common.{Some}
use Rattle.std.proofs.lemmas.List.Elements.{All-set}
use Rattle.std.proofs.lemmas.Option.{slice_get_read}
use Rattle.jv_meaning_world.specs.FrameFlow.{all_flow, item_flows}
use Rattle.jv_verify_frame.proofs.Replacing.{written}
use Rattle.jv_verify_pass.specs.declared.stacks.FlowedStack.{FlowedStack}
use Rattle.jv_verify_types.specs.Mapped.{stack_flows_to, stack_of, types_of_entries, world_of_types}
use Rattle.jv_verify_pass.specs.Pass.{Pass}
use Rattle.jv_verify_pass.specs.Inside.Stacks.{IsFlowed, LowestFlow, raised}
use Rattle.jv_verify_pass.proofs.FlowingStacks.{known_at, other_height, room_on_top, by_top, flows_whole}
use Rattle.jv_verify_pass.proofs.stacks.FlowedStacks.flows_again.Goals as goal

pub returns-then-known-height-clause-flows : goal.returns-then-known-height-clause-flows
returns-then-known-height-clause-flows c =
    let pass = c.args.pass.now in
    let frame = c.args.frame.now in
    let map = c.args.map.now in
    let items = c.args.self.now.stacks.items in
    let known = c.index-known.result.now in
    let at : slice_get items c.args.k ≡ Some known = slice_get_read items (length items) c.args.k known refl c.requires.within c.index-known.ensures in
    let h : LowestFlow pass.types (stack_of pass.types frame) map known =
    known_at pass items (stack_of pass.types frame) c.args.k c.args.place known map c.requires.stacks at (c.requires.found known at) c.requires.at in
    sym (other_height pass frame map known h c.height-height.result c.height-height.ensures (λ e. c.if-known-height.true e))

pub overflow_sub-height : goal.overflow_sub-height
overflow_sub-height c =
    let pass = c.args.pass.now in
    let frame = c.args.frame.now in
    let map = c.args.map.now in
    let items = c.args.self.now.stacks.items in
    let known = c.index-known.result.now in
    let at : slice_get items c.args.k ≡ Some known = slice_get_read items (length items) c.args.k known refl c.requires.within c.index-known.ensures in
    let h : LowestFlow pass.types (stack_of pass.types frame) map known =
    known_at pass items (stack_of pass.types frame) c.args.k c.args.place known map c.requires.stacks at (c.requires.found known at) c.requires.at in
    room_on_top pass frame map known h c.height-height.result c.height-height.ensures

pub returns-then-not-top_flows-clause-flows : goal.returns-then-not-top_flows-clause-flows
returns-then-not-top_flows-clause-flows c =
    let pass = c.args.pass.now in
    let frame = c.args.frame.now in
    let map = c.args.map.now in
    let items = c.args.self.now.stacks.items in
    let known = c.index-known.result.now in
    let n = c.height-height.result - known.lowest in
    let at : slice_get items c.args.k ≡ Some known = slice_get_read items (length items) c.args.k known refl c.requires.within c.index-known.ensures in
    let h : LowestFlow pass.types (stack_of pass.types frame) map known =
    known_at pass items (stack_of pass.types frame) c.args.k c.args.place known map c.requires.stacks at (c.requires.found known at) c.requires.at in
    sym c.if-not-top_flows.true
    ∙ (c.top_flows.ensures
    ∙ (ap (λ (p : Pass). all_flow (item_flows (world_of_types p.types)) (take n (stack_of p.types frame)) (take n (types_of_entries p.types map.stack))) c.pass.view_is
    ∙ by_top pass frame map known h c.height-height.result c.height-height.ensures c.if-known-height.false))

pub returns-clause-flows : goal.returns-clause-flows
returns-clause-flows c =
    let pass = c.args.pass.now in
    let frame = c.args.frame.now in
    let map = c.args.map.now in
    let items = c.args.self.now.stacks.items in
    let known = c.index-known.result.now in
    let n = c.height-height.result - known.lowest in
    let at : slice_get items c.args.k ≡ Some known = slice_get_read items (length items) c.args.k known refl c.requires.within c.index-known.ensures in
    let h : LowestFlow pass.types (stack_of pass.types frame) map known =
    known_at pass items (stack_of pass.types frame) c.args.k c.args.place known map c.requires.stacks at (c.requires.found known at) c.requires.at in
    sym c.if-not-top_flows.false
    ∙ (c.top_flows.ensures
    ∙ (ap (λ (p : Pass). all_flow (item_flows (world_of_types p.types)) (take n (stack_of p.types frame)) (take n (types_of_entries p.types map.stack))) c.pass.view_is
    ∙ by_top pass frame map known h c.height-height.result c.height-height.ensures c.if-known-height.false))

pub returns-clause-stacks : goal.returns-clause-stacks
returns-clause-stacks c =
    let pass = c.args.pass.now in
    let frame = c.args.frame.now in
    let map = c.args.map.now in
    let stacks = c.args.self.now.stacks in
    let items = stacks.items in
    let new = c.raise_at.new.stacks in
    let known = c.index-known.result.now in
    let height = c.height-height.result in
    let n = height - known.lowest in
    let at : slice_get items c.args.k ≡ Some known = slice_get_read items (length items) c.args.k known refl c.requires.within c.index-known.ensures in
    let h : LowestFlow pass.types (stack_of pass.types frame) map known =
    known_at pass items (stack_of pass.types frame) c.args.k c.args.place known map c.requires.stacks at (c.requires.found known at) c.requires.at in
    let flow : stack_flows_to pass.types (stack_of pass.types frame) map ≡ true =
    sym (c.top_flows.ensures
    ∙ (ap (λ (p : Pass). all_flow (item_flows (world_of_types p.types)) (take n (stack_of p.types frame)) (take n (types_of_entries p.types map.stack))) c.pass.view_is
    ∙ by_top pass frame map known h height c.height-height.ensures c.if-known-height.false)) ∙ c.if-not-top_flows.false in
    let is : new ≡ set items c.args.k (raised known) =
    c.raise_at.ensures.raised known (ap (λ (ss : List FlowedStack). slice_get ss c.args.k) c.deref_mut.ensures.value ∙ at)
    ∙ ap (λ (ss : List FlowedStack). set ss c.args.k (raised known)) c.deref_mut.ensures.value in
    let many : stacks.len ≡ length new = stacks.ok.0 ∙ (ap length (sym c.deref_mut.ensures.value) ∙ sym c.raise_at.ensures.many) in
    subst (λ (ss : List FlowedStack). All (IsFlowed pass (stack_of pass.types frame)) ss) (sym (written new _ stacks.len many ∙ is))
    (All-set (IsFlowed pass (stack_of pass.types frame)) items c.args.k (raised known)
    (flows_whole pass frame map known (ap (slice_get pass.frames) (c.requires.found known at) ∙ c.requires.at) (c.if-known-height.false ∙ c.height-height.ensures) flow h.objects)
    c.requires.stacks)
