use Rattle.std.proofs.Common.{rules, ◌≡◌, ◌+◌, ◌≤◌, suc, sym, ap, subst, ◌∙◌, arith}
use Rattle.jv_meaning_world.specs.FrameFlow.{item_flows}
use Rattle.jv_verify_types.specs.Typed.{TypeWorld, typed}
use Rattle.jv_verify_types.specs.Mapped.{world_of_types, names_of_types, types_of_entries, type_of_entry}
use Rattle.jv_verify_pass.proofs.FlowingStacks.{TopLeft, top_begins, no_item, no_entry_left, item_not, item_more, top_ends}
use Rattle.jv_verify_pass.proofs.stacks.top_flows.Goals as goal

pub loop-depth-init : goal.loop-depth-init
loop-depth-init c =
    let types = c.args.types.now in
    subst (TopLeft (item_flows (world_of_types types)) (names_of_types types) c.args.frame.now.stack (types_of_entries types c.args.map.now.stack) c.args.count 0)
    (ap (types_of_entries types) (sym c.stack-entries.ensures))
    (top_begins (item_flows (world_of_types types)) (names_of_types types) c.args.frame.now.stack (types_of_entries types c.args.map.now.stack) c.args.count)

pub returns-in_default : goal.returns-in_default
returns-in_default c =
    let types = c.args.types.now in
    sym (no_entry_left (item_flows (world_of_types types)) (names_of_types types) c.args.frame.now.stack (types_of_entries types c.args.map.now.stack) c.args.count
    c.loop-depth.depth c.loop-depth-test.true c.requires (types_of_entries types c.loop-depth.entries) c.loop-depth.invariant (ap (types_of_entries types) c.in_default.ensures))

pub returns-in_default-item : goal.returns-in_default-item
returns-in_default-item c =
    let types = c.args.types.now in
    absurd (no_item (item_flows (world_of_types types)) (names_of_types types) c.args.frame.now.stack (types_of_entries types c.args.map.now.stack) c.args.count
    c.loop-depth.depth c.loop-depth-test.true c.requires (types_of_entries types c.loop-depth.entries) c.loop-depth.invariant (sym c.item.ensures ∙ c.in_default-item.is))

pub returns-then-not-item_flows : goal.returns-then-not-item_flows
returns-then-not-item_flows c =
    let types = c.args.types.now in
    let names = names_of_types types in
    sym (item_not (item_flows (world_of_types types)) names c.args.frame.now.stack (types_of_entries types c.args.map.now.stack) c.args.count
    c.loop-depth.depth c.loop-depth-test.true c.requires (types_of_entries types c.loop-depth.entries) c.loop-depth.invariant
    c.in-Some-item.item (sym c.item.ensures ∙ c.in-Some-item.is) (type_of_entry types c.in-Some.entry) (types_of_entries types c.next.new.self) (ap (types_of_entries types) c.in-Some.ensures)
    (sym (c.item_flows.ensures ∙ (ap (λ (t : TypeWorld). item_flows t.world (typed t.names c.in-Some-item.item) (typed t.names c.item-in-loop-depth.result)) c.names.ensures
    ∙ ap (item_flows (world_of_types types) (typed names c.in-Some-item.item)) c.item-in-loop-depth.ensures)) ∙ c.if-not-item_flows.true))

pub loop-depth-preserved : goal.loop-depth-preserved
loop-depth-preserved c =
    let types = c.args.types.now in
    let names = names_of_types types in
    let next : suc c.loop-depth.depth ≡ c.loop-depth.depth + 1 = omega arith in
    subst (λ n. TopLeft (item_flows (world_of_types types)) names c.args.frame.now.stack (types_of_entries types c.args.map.now.stack) c.args.count n (types_of_entries types c.next.new.self)) next
    (item_more (item_flows (world_of_types types)) names c.args.frame.now.stack (types_of_entries types c.args.map.now.stack) c.args.count
    c.loop-depth.depth c.loop-depth-test.true c.requires (types_of_entries types c.loop-depth.entries) c.loop-depth.invariant
    c.in-Some-item.item (sym c.item.ensures ∙ c.in-Some-item.is) (type_of_entry types c.in-Some.entry) (types_of_entries types c.next.new.self) (ap (types_of_entries types) c.in-Some.ensures)
    (sym (c.item_flows.ensures ∙ (ap (λ (t : TypeWorld). item_flows t.world (typed t.names c.in-Some-item.item) (typed t.names c.item-in-loop-depth.result)) c.names.ensures
    ∙ ap (item_flows (world_of_types types) (typed names c.in-Some-item.item)) c.item-in-loop-depth.ensures)) ∙ c.if-not-item_flows.false))

pub returns : goal.returns
returns c =
    let types = c.args.types.now in
    let past : c.args.count ≤ c.loop-depth.depth = search rules in
    sym (top_ends (item_flows (world_of_types types)) (names_of_types types) c.args.frame.now.stack (types_of_entries types c.args.map.now.stack) c.args.count
    c.loop-depth.depth (types_of_entries types c.loop-depth.entries) past c.loop-depth.invariant)
