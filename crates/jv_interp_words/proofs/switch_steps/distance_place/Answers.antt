use Rattle.std.proofs.Common.{refl}
use Rattle.jv_interp_words.proofs.SwitchesStand.{test_known, known_above, place_first, place_first_too, place_behind}
use Rattle.jv_interp_words.proofs.switch_steps.distance_place.Goals as goal

pub returns-then-number-low : goal.returns-then-number-low
returns-then-number-low c =
    let low = c.signed_quad_at-low in
    place_first c.args.code.now c.args.numbers c.args.number
    (test_known c.args.number low.result c.args.number _ _ c.ranges.number (record { sfits = low.type_inv }) refl low.ensures c.if-number-low.true)

pub returns-then-high-number : goal.returns-then-high-number
returns-then-high-number c =
    let low = c.signed_quad_at-low in
    let high = c.signed_quad_at-high in
    place_first_too c.args.code.now c.args.numbers c.args.number
    (test_known c.args.number low.result c.args.number _ _ c.ranges.number (record { sfits = low.type_inv }) refl low.ensures c.if-number-low.false)
    (test_known high.result c.args.number _ c.args.number _ (record { sfits = high.type_inv }) c.ranges.number high.ensures refl c.if-high-number.true)

pub returns : goal.returns
returns c =
    let low = c.signed_quad_at-low in
    let high = c.signed_quad_at-high in
    let not_below =
    test_known c.args.number low.result c.args.number _ _ c.ranges.number (record { sfits = low.type_inv }) refl low.ensures c.if-number-low.false in
    place_behind c.args.code.now c.args.numbers c.args.number c.above.result not_below
    (test_known high.result c.args.number _ c.args.number _ (record { sfits = high.type_inv }) c.ranges.number high.ensures refl c.if-high-number.false)
    (known_above c.args.number low.result c.args.number _ c.above.result c.ranges.number (record { sfits = low.type_inv }) refl low.ensures c.above.type_inv
    not_below c.above.ensures)
