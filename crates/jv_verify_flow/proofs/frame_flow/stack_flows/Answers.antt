use Rattle.std.proofs.Common.{sym, ap, ◌∙◌}
use Rattle.jv_meaning_world.specs.FrameFlow.{item_flows}
use Rattle.jv_verify_types.specs.Typed.{TypeWorld, typed}
use Rattle.jv_verify_types.specs.Mapped.{world_of_types, names_of_types, types_of_entries, type_of_entry}
use Rattle.jv_verify_flow.proofs.Lists.{no_item, one_left, item_not, item_more, items_end}
use Rattle.jv_verify_flow.proofs.frame_flow.stack_flows.Goals as goal

pub returns-in_default-item : goal.returns-in_default-item
returns-in_default-item c =
    let types = c.args.types.now in
    sym (no_item (item_flows (world_of_types types)) types.constants.types c.args.frame.now.stack (types_of_entries types c.args.map.now.stack) c.height-height.result c.loop-entry.left
    (types_of_entries types c.loop-entry.entries) c.loop-entry.invariant (type_of_entry types c.in-Some.entry) (types_of_entries types c.next.new.self)
    (ap (types_of_entries types) c.in-Some.ensures) (sym c.item.ensures ∙ c.in_default-item.is))

pub returns-then-not-item_flows : goal.returns-then-not-item_flows
returns-then-not-item_flows c =
    let types = c.args.types.now in
    let names = names_of_types types in
    sym (item_not (item_flows (world_of_types types)) types.constants.types c.args.frame.now.stack (types_of_entries types c.args.map.now.stack) c.height-height.result c.loop-entry.left
    (types_of_entries types c.loop-entry.entries) c.loop-entry.invariant (type_of_entry types c.in-Some.entry) (types_of_entries types c.next.new.self)
    (ap (types_of_entries types) c.in-Some.ensures) c.in-Some-item.item (sym c.item.ensures ∙ c.in-Some-item.is)
    (sym (c.item_flows.ensures ∙ (ap (λ (t : TypeWorld). item_flows t.world (typed t.names c.in-Some-item.item) (typed t.names c.item-in-Some.result)) c.names.ensures
    ∙ ap (item_flows (world_of_types types) (typed names c.in-Some-item.item)) c.item-in-Some.ensures)) ∙ c.if-not-item_flows.true))

pub overflow_sub-left : goal.overflow_sub-left
overflow_sub-left c =
    let types = c.args.types.now in
    one_left (item_flows (world_of_types types)) types.constants.types c.args.frame.now.stack (types_of_entries types c.args.map.now.stack) c.height-height.result c.loop-entry.left
    (types_of_entries types c.loop-entry.entries) c.loop-entry.invariant (type_of_entry types c.in-Some.entry) (types_of_entries types c.next.new.self)
    (ap (types_of_entries types) c.in-Some.ensures) c.in-Some-item.item (sym c.item.ensures ∙ c.in-Some-item.is)

pub loop-entry-preserved : goal.loop-entry-preserved
loop-entry-preserved c =
    let types = c.args.types.now in
    let names = names_of_types types in
    item_more (item_flows (world_of_types types)) types.constants.types c.args.frame.now.stack (types_of_entries types c.args.map.now.stack) c.height-height.result c.loop-entry.left
    (types_of_entries types c.loop-entry.entries) c.loop-entry.invariant (type_of_entry types c.in-Some.entry) (types_of_entries types c.next.new.self)
    (ap (types_of_entries types) c.in-Some.ensures) c.in-Some-item.item (sym c.item.ensures ∙ c.in-Some-item.is)
    (sym (c.item_flows.ensures ∙ (ap (λ (t : TypeWorld). item_flows t.world (typed t.names c.in-Some-item.item) (typed t.names c.item-in-Some.result)) c.names.ensures
    ∙ ap (item_flows (world_of_types types) (typed names c.in-Some-item.item)) c.item-in-Some.ensures)) ∙ c.if-not-item_flows.false)

pub returns : goal.returns
returns c =
    let types = c.args.types.now in
    items_end (item_flows (world_of_types types)) types.constants.types c.args.frame.now.stack (types_of_entries types c.args.map.now.stack) c.height-height.result c.loop-entry.left
    (types_of_entries types c.loop-entry.entries) c.loop-entry.invariant (ap (types_of_entries types) c.in_default.ensures)
