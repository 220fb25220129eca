use Rattle.std.proofs.Common.{◌≡◌, ℤ, refl, sym, ap, ◌∙◌, arith, rules}
use Rattle.std.proofs.lemmas.Int.{to_z-of_z}
use Rattle.std.specs.Int.{w32, cast_signed, cast_unsigned}
use Rattle.jv_meaning_machine.specs.Values.Value.{Int}
use Rattle.jv_interp_control.proofs.ConstantStored.{statics_length, one_stored}
use Rattle.jv_interp_control.proofs.statics.put_int.Goals as goal

pub index_mut-requires : goal.index_mut-requires
index_mut-requires c =
    let r = c.requires in
    let p = r.putting in
    let size = statics_length r.world r.texts r.memory r.addresses c.args.held.now r.blocks r.d r.type c.args.word r.value p.stands p.typed p.begins p.kind in
    let all = c.args.held.now.statics.ok.0 in
    let width = r.width_is in
    omega (arith, size, all, width)

pub returns-clause-puts : goal.returns-clause-puts
returns-clause-puts c = λ world texts memory addresses blocks d type p how_is.
    let again : c.args.number ≡ cast_signed w32 c.cast_unsigned.result =
    sym (to_z-of_z w32 c.args.number c.ranges.number)
    ∙ ap (λ (z : ℤ). cast_signed w32 (cast_unsigned w32 z)) (sym (to_z-of_z w32 c.args.number c.ranges.number))
    ∙ ap (cast_signed w32) (sym c.cast_unsigned.ensures) in
    one_stored world texts memory addresses c.args.held.now blocks d type c.args.word (Int c.args.number) p.stands p.typed p.begins p.kind c.args.how _
    c.cast_unsigned.result c.narrowed.result refl (c.cast_unsigned.result, refl, again) how_is c.narrowed.ensures (search rules)
