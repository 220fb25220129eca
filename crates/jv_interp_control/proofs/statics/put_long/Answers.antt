use Rattle.std.proofs.Common.{◌≡◌, ℕ, ℤ, ◌+◌, ◌*◌, ◌/◌, ◌%◌, refl, sym, ap, ◌∙◌, arith, rules}
use Rattle.std.proofs.lemmas.Int.{to_z-of_z}
use Rattle.std.specs.Int.{w64, cast_signed, cast_unsigned}
use Rattle.jv_meaning_machine.specs.Values.Value.{Long}
use Rattle.jv_interp_control.proofs.ConstantStored.{statics_length, two_stored}
use Rattle.jv_interp_control.proofs.statics.put_long.Goals as goal

halves : (n : ℕ) → n ≡ n / 4294967296 * 4294967296 + n % 4294967296
halves n = omega arith

pub index_mut-requires : goal.index_mut-requires
index_mut-requires c =
    let r = c.requires in
    let p = r.putting in
    let size = statics_length r.world r.texts r.memory r.addresses c.args.held.now r.blocks r.d r.type c.args.word r.value p.stands p.typed p.begins p.kind in
    let all = c.args.held.now.statics.ok.0 in
    let width = r.width_is in
    omega (arith, size, all, width)

pub overflow_add-word : goal.overflow_add-word
overflow_add-word c =
    let r = c.requires in
    let p = r.putting in
    let size = statics_length r.world r.texts r.memory r.addresses c.args.held.now r.blocks r.d r.type c.args.word r.value p.stands p.typed p.begins p.kind in
    let all = c.args.held.now.statics.ok.0 in
    let width = r.width_is in
    search rules

pub index_mut-requires-2 : goal.index_mut-requires-2
index_mut-requires-2 c =
    let r = c.requires in
    let p = r.putting in
    let size = statics_length r.world r.texts r.memory r.addresses c.args.held.now r.blocks r.d r.type c.args.word r.value p.stands p.typed p.begins p.kind in
    let all = c.args.held.now.statics.ok.0 in
    let width = r.width_is in
    omega (arith, size, all, width)

pub returns-clause-puts : goal.returns-clause-puts
returns-clause-puts c = λ world texts memory addresses blocks d type p.
    let bits = c.cast_unsigned-bits in
    let again =
    sym (to_z-of_z w64 c.args.number c.ranges.number)
    ∙ ap (λ (z : ℤ). cast_signed w64 (cast_unsigned w64 z)) (sym (to_z-of_z w64 c.args.number c.ranges.number))
    ∙ ap (cast_signed w64) (sym bits.ensures)
    ∙ ap (cast_signed w64) (halves bits.result) in
    two_stored world texts memory addresses c.args.held.now blocks d type c.args.word (Long c.args.number) p.stands p.typed p.begins p.kind _
    (bits.result % 4294967296) (bits.result / 4294967296) refl (bits.result % 4294967296, bits.result / 4294967296, refl, again) (search rules)
