use Rattle.std.proofs.Common.{ℤ, ◌∙◌, ap, arith}
use Rattle.std.proofs.lemmas.Int.{to_z-of_z}
use Rattle.std.specs.Int.{w32}
use Rattle.jv_interp_words.specs.Inside.Switches.{distance_place}
use Rattle.jv_interp_words.proofs.SwitchesStand.{numbers_stand, some_room, distance_stands}
use Rattle.jv_interp_words.proofs.switch_steps.distance_in_table.Goals as goal

pub distance_place-place-requires-clause-within : goal.distance_place-place-requires-clause-within
distance_place-place-requires-clause-within c =
    let t = c.requires in
    let numbers = c.numbers_behind-numbers in
    omega (arith, some_room c.args.code.now numbers.result t.1 t.2 t.3 t.4 (numbers_stand c.args.code.now c.args.pc numbers.result t.0 t.1 t.2 t.3 t.4 t.5 numbers.ensures))

pub distance_place-place-requires-clause-few : goal.distance_place-place-requires-clause-few
distance_place-place-requires-clause-few c = omega (arith, c.requires.5.code.few)

pub signed_quad_at-requires : goal.signed_quad_at-requires
signed_quad_at-requires c =
    let t = c.requires in
    let numbers = c.numbers_behind-numbers in
    let stand = numbers_stand c.args.code.now c.args.pc numbers.result t.0 t.1 t.2 t.3 t.4 t.5 numbers.ensures in
    (distance_stands c.args.code.now numbers.result c.distance_place-place.result c.args.number t.1 t.2 t.3 t.4 stand
    (c.distance_place-place.ensures ∙ ap (λ (z : ℤ). distance_place c.args.code.now numbers.result z) (to_z-of_z w32 c.args.number c.ranges.number))).within

pub returns : goal.returns
returns c = λ padding default low high distances is.
    let numbers = c.numbers_behind-numbers in
    let stand = numbers_stand c.args.code.now c.args.pc numbers.result padding default low high distances is numbers.ensures in
    to_z-of_z w32 c.signed_quad_at.result (record { sfits = c.signed_quad_at.type_inv }) ∙ c.signed_quad_at.ensures
    ∙ (distance_stands c.args.code.now numbers.result c.distance_place-place.result c.args.number default low high distances stand
    (c.distance_place-place.ensures ∙ ap (λ (z : ℤ). distance_place c.args.code.now numbers.result z) (to_z-of_z w32 c.args.number c.ranges.number))).is
