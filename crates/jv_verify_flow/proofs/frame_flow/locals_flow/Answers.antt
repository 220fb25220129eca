use Rattle.std.proofs.Common.{length, reverse, refl, sym, ap, subst, ◌∙◌, arith}
use Rattle.std.specs.Option.{option_map}
use Rattle.jv_stackmap.specs.Frames.{expanded}
use Rattle.jv_meaning_world.specs.Flow.{flows}
use Rattle.jv_meaning_world.specs.FrameFlow.{all_flow}
use Rattle.jv_meaning_typing.specs.Rule.{without_object}
use Rattle.jv_verify_types.specs.Typed.{typed, typed_all}
use Rattle.jv_verify_types.specs.Mapped.{world_of_types, names_of_types, types_of_entries, type_of_entry}
use Rattle.jv_verify_flow.specs.Inside.Behind.{FlowsBehind, narrow_item}
use Rattle.jv_verify_flow.proofs.Behind.{no_room, begins, without_length, narrow_width, no_local, goes_on, flows_not, left_goes_on, left_flows_not}
use Rattle.jv_verify_flow.proofs.frame_flow.locals_flow.Goals as goal

pub returns-then-from-local_count : goal.returns-then-from-local_count
returns-then-from-local_count c =
    let types = c.args.types.now in
    let locals = c.args.frame.now.locals in
    sym (no_room (world_of_types types) (without_object (option_map (typed (names_of_types types)) c.args.object)
    (typed_all (names_of_types types) locals)) (length locals) (types_of_entries types c.args.map.now.locals)
    (without_length (names_of_types types) c.args.object locals)
    (omega (arith, c.if-from-local_count.true, c.local_count.ensures, c.from.ensures, c.local_words-at.ensures, c.requires)))

pub loop-entry-init : goal.loop-entry-init
loop-entry-init c =
    let types = c.args.types.now in
    let locals = c.args.frame.now.locals in
    let left = without_object (option_map (typed (names_of_types types)) c.args.object) (typed_all (names_of_types types) locals) in
    let entries = types_of_entries types c.args.map.now.locals in
    let whole = all_flow (flows (world_of_types types)) left (expanded (length locals) (reverse entries)) in
    subst (λ es. FlowsBehind (world_of_types types) left whole (types_of_entries types es) c.local_words-at.result) (sym c.locals-entries.ensures)
    (subst (FlowsBehind (world_of_types types) left whole entries) (sym (c.local_words-at.ensures ∙ c.requires))
    (begins (world_of_types types) left (length locals) entries (without_length (names_of_types types) c.args.object locals)
    (omega (arith, c.if-from-local_count.false, c.local_count.ensures, c.from.ensures, c.local_words-at.ensures, c.requires))))

pub returns-in_default-local : goal.returns-in_default-local
returns-in_default-local c =
    let types = c.args.types.now in
    absurd (no_local types.constants.types c.args.object c.args.frame.now.locals _ (types_of_entries types c.loop-entry.entries) c.loop-entry.at c.loop-entry.invariant
    (type_of_entry types c.in-Some.entry) (types_of_entries types c.next.new.self) (ap (types_of_entries types) c.in-Some.ensures) (narrow_item c.in-Some.entry) 1
    (narrow_width (names_of_types types) c.in-Some.entry) (c.is_narrow.ensures c.if-is_narrow.true types) (sym c.local.ensures ∙ c.in_default-local.is))

pub returns-then-not-narrow_flows : goal.returns-then-not-narrow_flows
returns-then-not-narrow_flows c =
    let types = c.args.types.now in
    sym (left_flows_not types.constants.types c.args.object c.args.frame.now.locals _ (types_of_entries types c.loop-entry.entries) c.loop-entry.at c.loop-entry.invariant
    (type_of_entry types c.in-Some.entry) (types_of_entries types c.next.new.self) (ap (types_of_entries types) c.in-Some.ensures) (narrow_item c.in-Some.entry) 1
    (narrow_width (names_of_types types) c.in-Some.entry) (c.is_narrow.ensures c.if-is_narrow.true types) c.in-Some-local.local (sym c.local.ensures ∙ c.in-Some-local.is)
    c.narrow_flows.result (c.narrow_flows.ensures (world_of_types types) (names_of_types types) c.args.object)
    c.if-not-narrow_flows.true)

pub loop-entry-preserved-then-is_narrow : goal.loop-entry-preserved-then-is_narrow
loop-entry-preserved-then-is_narrow c =
    let types = c.args.types.now in
    left_goes_on types.constants.types c.args.object c.args.frame.now.locals _ (types_of_entries types c.loop-entry.entries) c.loop-entry.at c.loop-entry.invariant
    (type_of_entry types c.in-Some.entry) (types_of_entries types c.next.new.self) (ap (types_of_entries types) c.in-Some.ensures) (narrow_item c.in-Some.entry) 1
    (narrow_width (names_of_types types) c.in-Some.entry) (c.is_narrow.ensures c.if-is_narrow.true types) c.in-Some-local.local (sym c.local.ensures ∙ c.in-Some-local.is)
    c.narrow_flows.result (c.narrow_flows.ensures (world_of_types types) (names_of_types types) c.args.object)
    c.if-not-narrow_flows.false

pub returns-in_default-local-2 : goal.returns-in_default-local-2
returns-in_default-local-2 c =
    let types = c.args.types.now in
    absurd (no_local types.constants.types c.args.object c.args.frame.now.locals _ (types_of_entries types c.loop-entry.entries) c.loop-entry.at c.loop-entry.invariant
    (type_of_entry types c.in-Some.entry) (types_of_entries types c.next.new.self) (ap (types_of_entries types) c.in-Some.ensures) c.item-item.result c.words_of-at.result
    (c.words_of-at.ensures.of_type (names_of_types types)) c.item-item.ensures (sym c.local-in-Some.ensures ∙ c.in_default-local-2.is))

pub returns-then-not-left_flows : goal.returns-then-not-left_flows
returns-then-not-left_flows c =
    let types = c.args.types.now in
    sym (flows_not types.constants.types c.args.object c.args.frame.now.locals _ (types_of_entries types c.loop-entry.entries) c.loop-entry.at c.loop-entry.invariant
    (type_of_entry types c.in-Some.entry) (types_of_entries types c.next.new.self) (ap (types_of_entries types) c.in-Some.ensures) c.item-item.result c.words_of-at.result
    (c.words_of-at.ensures.of_type (names_of_types types)) c.item-item.ensures c.in-Some-local-2.local c.left_in-left.result (sym c.local-in-Some.ensures ∙ c.in-Some-local-2.is)
    (c.left_in-left.ensures (names_of_types types)) types.constants.types refl c.left_flows.result (c.left_flows.ensures record {
      local = c.in-Some-local-2.local;
      there = sym c.local-in-Some.ensures ∙ c.in-Some-local-2.is;
      left_is = c.left_in-left.ensures (names_of_types types);
      item_is = c.item-item.ensures;
    }) c.if-not-left_flows.true)

pub loop-entry-preserved : goal.loop-entry-preserved
loop-entry-preserved c =
    let types = c.args.types.now in
    goes_on types.constants.types c.args.object c.args.frame.now.locals _ (types_of_entries types c.loop-entry.entries) c.loop-entry.at c.loop-entry.invariant
    (type_of_entry types c.in-Some.entry) (types_of_entries types c.next.new.self) (ap (types_of_entries types) c.in-Some.ensures) c.item-item.result c.words_of-at.result
    (c.words_of-at.ensures.of_type (names_of_types types)) c.item-item.ensures c.in-Some-local-2.local c.left_in-left.result (sym c.local-in-Some.ensures ∙ c.in-Some-local-2.is)
    (c.left_in-left.ensures (names_of_types types)) types.constants.types refl c.left_flows.result (c.left_flows.ensures record {
      local = c.in-Some-local-2.local;
      there = sym c.local-in-Some.ensures ∙ c.in-Some-local-2.is;
      left_is = c.left_in-left.ensures (names_of_types types);
      item_is = c.item-item.ensures;
    }) c.if-not-left_flows.false
