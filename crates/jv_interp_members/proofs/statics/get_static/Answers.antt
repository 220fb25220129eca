use Rattle.std.proofs.lemmas.List.{length-set}
use Rattle.std.proofs.Common.{refl, arith}
use Rattle.jv_interp_held.specs.Executing.{place}
use Rattle.jv_interp_members.proofs.StaticGot.{statics_length, has_room, got_word}
use Rattle.jv_interp_members.proofs.statics.get_static.Goals as goal

pub index-requires : goal.index-requires
index-requires c =
    let r = c.requires in
    let size = statics_length c.args.word 1 c.args.next (place c.args.at.now c.args.words.now c.args.held.now r.blocks) r.texts r.c r.d r.addresses r.done r.below r.gets in
    let all = c.args.held.now.statics.ok.0 in
    omega (arith, size, all)

pub bounds-words-at : goal.bounds-words-at
bounds-words-at c =
    let r = c.requires in
    let room = has_room c.args.word 1 c.args.next (place c.args.at.now c.args.words.now c.args.held.now r.blocks) r.texts r.c r.d r.addresses r.done r.below r.gets r.room in
    omega (arith, room)

pub returns-clause-gets : goal.returns-clause-gets
returns-clause-gets c = λ blocks texts x d addresses done below h.
    let r = c.requires in
    let room = has_room c.args.word 1 c.args.next (place c.args.at.now c.args.words.now c.args.held.now r.blocks) r.texts r.c r.d r.addresses r.done r.below r.gets r.room in
    let here = place c.args.at.now c.args.words.now c.args.held.now blocks in
    got_word c.args.word 1 c.args.next here texts x d addresses done below h _ c.index.result.now c.index.ensures refl refl refl (omega (arith, room))

pub returns-clause-stays : goal.returns-clause-stays
returns-clause-stays c =
    let r = c.requires in
    let room = has_room c.args.word 1 c.args.next (place c.args.at.now c.args.words.now c.args.held.now r.blocks) r.texts r.c r.d r.addresses r.done r.below r.gets r.room in
    record { same = refl; top_within = omega (arith, room, length-set c.args.words.now c.args.at.now.top c.index.result.now) }
