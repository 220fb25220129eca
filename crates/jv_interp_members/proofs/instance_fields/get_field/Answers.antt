use Rattle.std.proofs.Common.{refl, ◌∙◌, arith}
use Rattle.jv_interp_held.specs.Executing.{place}
use Rattle.jv_interp_members.proofs.Getting.{raises, gets, got_word, block_length}
use Rattle.jv_interp_members.proofs.instance_fields.get_field.Goals as goal

pub returns-then-reference-eq0-clause-gets : goal.returns-then-reference-eq0-clause-gets
returns-then-reference-eq0-clause-gets g c = λ texts x d addresses done below h.
    raises c.args.word 1 c.args.next (place c.args.at.now c.args.words.now c.args.held.now (g.S.Store.content c.args.store.now)) texts x d
    addresses done below h c.if-reference-eq0.true

pub get-requires : goal.get-requires
get-requires g c =
    let r = c.requires.can in
    let here = place c.args.at.now c.args.words.now c.args.held.now (g.S.Store.content c.args.store.now) in
    let it = gets c.args.word 1 c.args.next here r.texts r.c r.d r.addresses r.done r.below r.gets c.if-reference-eq0.false in
    let size = block_length c.args.word 1 c.args.next here r.texts r.c r.d r.addresses r.done r.below r.gets it in
    let width = it.field.width ∙ r.gets.width_is in
    omega (arith, size, width)

pub returns-clause-gets : goal.returns-clause-gets
returns-clause-gets g c = λ texts x d addresses done below h.
    let here = place c.args.at.now c.args.words.now c.args.held.now (g.S.Store.content c.args.store.now) in
    let it = gets c.args.word 1 c.args.next here texts x d addresses done below h c.if-reference-eq0.false in
    rw c.get.ensures (got_word c.args.word 1 c.args.next here texts x d addresses done below h it _ refl refl refl)
