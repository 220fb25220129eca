use Rattle.std.proofs.Common.{◌≡◌, ◌<◌, ◌≤◌, true, false, length, sym, ◌∙◌, ◌⊎◌, arith}
use Rattle.std.specs.Prelude.{slice_get}
use Rattle.std.proofs.lemmas.List.{length-map}
use Rattle.jv_meaning_world.specs.FrameFlow.{item_flows}
use Rattle.jv_verify_types.specs.Typed.{typed, typed_all}
use Rattle.jv_verify_pass.specs.Inside.Unlike.{both_flow}
use Rattle.jv_verify_pass.proofs.Differing.{all_alike, below_max, below_more, flow_at, unlike_there}
use Rattle.jv_verify_pass.proofs.difference.first_item.Goals as goal

pub returns-then-not-items_flow : goal.returns-then-not-items_flow
returns-then-not-items_flow c =
    let names = c.args.names.now.names in
    let flow = item_flows c.args.names.now.world in
    let f = c.args.frame.now.stack in
    let g = c.args.map.now.stack in
    let k = c.loop-depth.depth in
    let one = length-map f (typed names) in
    let other = length-map g (typed names) in
    let lt = c.loop-depth-test.true in
    let within : (k < length (typed_all names f)) ⊎ (k < length (typed_all names g)) =
    below_max k (length (typed_all names f)) (length (typed_all names g)) c.max-height.result (omega (arith, c.max-height.ensures, c.height.ensures, c.height-2.ensures, one, other)) lt in
    sym (unlike_there flow (typed_all names f) (typed_all names g) k c.loop-depth.invariant
    (flow_at flow (typed names) f g k c.item.result c.item-in-loop-depth.result false c.if-not-items_flow.ensures c.item.ensures c.item-in-loop-depth.ensures) within)

pub loop-depth-preserved : goal.loop-depth-preserved
loop-depth-preserved c =
    let names = c.args.names.now.names in
    let flow = item_flows c.args.names.now.world in
    let f = c.args.frame.now.stack in
    let g = c.args.map.now.stack in
    let k = c.loop-depth.depth in
    below_more (λ j. both_flow flow (slice_get (typed_all names f) j) (slice_get (typed_all names g) j) ≡ true) k c.loop-depth.invariant
    (flow_at flow (typed names) f g k c.item.result c.item-in-loop-depth.result true (sym c.if-not-items_flow.false ∙ c.items_flow.ensures) c.item.ensures c.item-in-loop-depth.ensures)

pub returns : goal.returns
returns c =
    let names = c.args.names.now.names in
    let f = c.args.frame.now.stack in
    let g = c.args.map.now.stack in
    let past = c.loop-depth-test.false in
    let high = c.max-height.ensures in
    let one : length (typed_all names f) ≤ c.loop-depth.depth = omega (arith, past, high, c.height.ensures, c.height-2.ensures, length-map f (typed names)) in
    let other : length (typed_all names g) ≤ c.loop-depth.depth = omega (arith, past, high, c.height.ensures, c.height-2.ensures, length-map g (typed names)) in
    sym (all_alike (item_flows c.args.names.now.world) (typed_all names f) (typed_all names g) c.loop-depth.depth c.loop-depth.invariant one other)
