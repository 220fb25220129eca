use Rattle.std.proofs.Common.{◌-◌, refl, ◌∙◌, arith, set}
use Rattle.std.proofs.lemmas.List.{length-set}
use Rattle.jv_interp_held.specs.Executing.{place}
use Rattle.jv_interp_members.proofs.Getting.{raises, gets, got_long, block_length, has_room}
use Rattle.jv_interp_members.proofs.instance_fields.get_long_field.Goals as goal

pub returns-then-reference-eq0-clause-gets : goal.returns-then-reference-eq0-clause-gets
returns-then-reference-eq0-clause-gets g c = λ texts x d addresses done below h.
    raises c.args.word 2 c.args.next (place c.args.at.now c.args.words.now c.args.held.now (g.S.Store.content c.args.store.now)) texts x d
    addresses done below h c.if-reference-eq0.true

pub get-requires : goal.get-requires
get-requires g c =
    let r = c.requires.can in
    let here = place c.args.at.now c.args.words.now c.args.held.now (g.S.Store.content c.args.store.now) in
    let it = gets c.args.word 2 c.args.next here r.texts r.c r.d r.addresses r.done r.below r.gets c.if-reference-eq0.false in
    let size = block_length c.args.word 2 c.args.next here r.texts r.c r.d r.addresses r.done r.below r.gets it in
    let width = it.field.width ∙ r.gets.width_is in
    omega (arith, size, width)

pub get-requires-2 : goal.get-requires-2
get-requires-2 g c =
    let r = c.requires.can in
    let here = place c.args.at.now c.args.words.now c.args.held.now (g.S.Store.content c.args.store.now) in
    let it = gets c.args.word 2 c.args.next here r.texts r.c r.d r.addresses r.done r.below r.gets c.if-reference-eq0.false in
    let size = block_length c.args.word 2 c.args.next here r.texts r.c r.d r.addresses r.done r.below r.gets it in
    let width = it.field.width ∙ r.gets.width_is in
    omega (arith, size, width)

pub bounds-words-at-3 : goal.bounds-words-at-3
bounds-words-at-3 g c =
    let r = c.requires.can in
    let here = place c.args.at.now c.args.words.now c.args.held.now (g.S.Store.content c.args.store.now) in
    let it = gets c.args.word 2 c.args.next here r.texts r.c r.d r.addresses r.done r.below r.gets c.if-reference-eq0.false in
    let room = has_room c.args.word 2 c.args.next here r.texts r.c r.d r.addresses r.done r.below r.gets it refl r.room in
    omega (arith, room, length-set c.args.words.now (c.args.at.now.top - 1) c.get.result)

pub returns-clause-gets : goal.returns-clause-gets
returns-clause-gets g c = λ texts x d addresses done below h.
    let here = place c.args.at.now c.args.words.now c.args.held.now (g.S.Store.content c.args.store.now) in
    let it = gets c.args.word 2 c.args.next here texts x d addresses done below h c.if-reference-eq0.false in
    let r = c.requires.can in
    let first = gets c.args.word 2 c.args.next here r.texts r.c r.d r.addresses r.done r.below r.gets c.if-reference-eq0.false in
    let room = has_room c.args.word 2 c.args.next here r.texts r.c r.d r.addresses r.done r.below r.gets first refl r.room in
    rw (c.get.ensures, c.get-2.ensures) (got_long c.args.word 2 c.args.next here texts x d addresses done below h it _ refl refl refl room)

pub returns-clause-stays : goal.returns-clause-stays
returns-clause-stays g c =
    let r = c.requires.can in
    let here = place c.args.at.now c.args.words.now c.args.held.now (g.S.Store.content c.args.store.now) in
    let it = gets c.args.word 2 c.args.next here r.texts r.c r.d r.addresses r.done r.below r.gets c.if-reference-eq0.false in
    let room = has_room c.args.word 2 c.args.next here r.texts r.c r.d r.addresses r.done r.below r.gets it refl r.room in
    let first = length-set c.args.words.now (c.args.at.now.top - 1) c.get.result in
    let second = length-set (set c.args.words.now (c.args.at.now.top - 1) c.get.result) c.args.at.now.top c.get-2.result in
    record { same = refl; top_within = omega (arith, room, first, second) }
