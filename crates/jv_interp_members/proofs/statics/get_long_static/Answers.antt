use Rattle.std.proofs.Common.{refl, arith, rules, set, ◌+◌}
use Rattle.std.proofs.lemmas.List.{length-set}
use Rattle.jv_interp_held.specs.Executing.{place}
use Rattle.jv_interp_members.proofs.StaticGot.{statics_length, has_room, got_long}
use Rattle.jv_interp_members.proofs.statics.get_long_static.Goals as goal

pub index-requires : goal.index-requires
index-requires c =
    let r = c.requires in
    let size = statics_length c.args.word 2 c.args.next (place c.args.at.now c.args.words.now c.args.held.now r.blocks) r.texts r.c r.d r.addresses r.done r.below r.gets in
    let all = c.args.held.now.statics.ok.0 in
    omega (arith, size, all)

pub bounds-words-at : goal.bounds-words-at
bounds-words-at c =
    let r = c.requires in
    let room = has_room c.args.word 2 c.args.next (place c.args.at.now c.args.words.now c.args.held.now r.blocks) r.texts r.c r.d r.addresses r.done r.below r.gets r.room in
    omega (arith, room)

pub overflow_add-word : goal.overflow_add-word
overflow_add-word c =
    let r = c.requires in
    let size = statics_length c.args.word 2 c.args.next (place c.args.at.now c.args.words.now c.args.held.now r.blocks) r.texts r.c r.d r.addresses r.done r.below r.gets in
    let all = c.args.held.now.statics.ok.0 in
    search rules

pub index-requires-2 : goal.index-requires-2
index-requires-2 c =
    let r = c.requires in
    let size = statics_length c.args.word 2 c.args.next (place c.args.at.now c.args.words.now c.args.held.now r.blocks) r.texts r.c r.d r.addresses r.done r.below r.gets in
    let all = c.args.held.now.statics.ok.0 in
    omega (arith, size, all)

pub bounds-words-at-2 : goal.bounds-words-at-2
bounds-words-at-2 c =
    let r = c.requires in
    let room = has_room c.args.word 2 c.args.next (place c.args.at.now c.args.words.now c.args.held.now r.blocks) r.texts r.c r.d r.addresses r.done r.below r.gets r.room in
    omega (arith, room, length-set c.args.words.now c.args.at.now.top c.index.result.now)

pub returns-clause-gets : goal.returns-clause-gets
returns-clause-gets c = λ blocks texts x d addresses done below h.
    let r = c.requires in
    let room = has_room c.args.word 2 c.args.next (place c.args.at.now c.args.words.now c.args.held.now r.blocks) r.texts r.c r.d r.addresses r.done r.below r.gets r.room in
    let here = place c.args.at.now c.args.words.now c.args.held.now blocks in
    got_long c.args.word 2 c.args.next here texts x d addresses done below h _ c.index.result.now c.index-2.result.now c.index.ensures c.index-2.ensures
    refl refl refl (omega (arith, room))

pub returns-clause-stays : goal.returns-clause-stays
returns-clause-stays c =
    let r = c.requires in
    let room = has_room c.args.word 2 c.args.next (place c.args.at.now c.args.words.now c.args.held.now r.blocks) r.texts r.c r.d r.addresses r.done r.below r.gets r.room in
    let first = length-set c.args.words.now c.args.at.now.top c.index.result.now in
    let second = length-set (set c.args.words.now c.args.at.now.top c.index.result.now) (c.args.at.now.top + 1) c.index-2.result.now in
    record { same = refl; top_within = omega (arith, room, first, second) }
