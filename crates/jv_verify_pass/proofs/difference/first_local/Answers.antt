use Rattle.std.proofs.Common.{◌≡◌, ◌<◌, ◌≤◌, true, false, length, sym, ◌∙◌, inl, arith}
use Rattle.std.specs.Prelude.{slice_get}
use Rattle.std.proofs.lemmas.List.{length-map}
use Rattle.jv_meaning_world.specs.Flow.{flows}
use Rattle.jv_verify_types.specs.Typed.{typed, typed_all}
use Rattle.jv_verify_pass.specs.Inside.Unlike.{both_flow}
use Rattle.jv_verify_pass.proofs.Differing.{all_alike, below_more, flow_at, unlike_there}
use Rattle.jv_verify_pass.proofs.difference.first_local.Goals as goal

pub returns-then-not-locals_flow : goal.returns-then-not-locals_flow
returns-then-not-locals_flow c =
    let names = c.args.names.now.names in
    let flow = flows c.args.names.now.world in
    let f = c.args.frame.now.locals in
    let g = c.args.map.now.locals in
    let k = c.loop-index.index in
    let within : k < length (typed_all names f) = let lt = c.loop-index-test.true in omega (arith, lt, c.requires.frame, length-map f (typed names)) in
    sym (unlike_there flow (typed_all names f) (typed_all names g) k c.loop-index.invariant
    (flow_at flow (typed names) f g k c.local.result c.local-in-loop-index.result false c.if-not-locals_flow.ensures c.local.ensures c.local-in-loop-index.ensures) (inl within))

pub loop-index-preserved : goal.loop-index-preserved
loop-index-preserved c =
    let names = c.args.names.now.names in
    let flow = flows c.args.names.now.world in
    let f = c.args.frame.now.locals in
    let g = c.args.map.now.locals in
    let k = c.loop-index.index in
    below_more (λ j. both_flow flow (slice_get (typed_all names f) j) (slice_get (typed_all names g) j) ≡ true) k c.loop-index.invariant
    (flow_at flow (typed names) f g k c.local.result c.local-in-loop-index.result true (sym c.if-not-locals_flow.false ∙ c.locals_flow.ensures) c.local.ensures c.local-in-loop-index.ensures)

pub returns : goal.returns
returns c =
    let names = c.args.names.now.names in
    let f = c.args.frame.now.locals in
    let g = c.args.map.now.locals in
    let past = c.loop-index-test.false in
    let one : length (typed_all names f) ≤ c.loop-index.index = omega (arith, past, c.requires.frame, length-map f (typed names)) in
    let other : length (typed_all names g) ≤ c.loop-index.index = omega (arith, past, c.requires.map, length-map g (typed names)) in
    sym (all_alike (flows c.args.names.now.world) (typed_all names f) (typed_all names g) c.loop-index.index c.loop-index.invariant one other)
