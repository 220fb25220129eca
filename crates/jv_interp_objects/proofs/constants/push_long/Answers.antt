use Rattle.std.proofs.Common.{◌+◌, refl, arith, set}
use Rattle.std.proofs.lemmas.List.{length-set}
use Rattle.jv_interp_held.specs.Executing.{place}
use Rattle.jv_interp_objects.proofs.ConstantPushed.{long_room, long_pushed}
use Rattle.jv_interp_objects.proofs.constants.push_long.Goals as goal

pub bounds-words-at : goal.bounds-words-at
bounds-words-at c =
    let q = c.requires in
    let room = long_room c.args.low c.args.high c.args.next (place c.args.at.now c.args.words.now q.held q.blocks) q.texts q.c q.index q.addresses q.done q.below q.pushes q.room in
    omega (arith, room)

pub bounds-words-at-2 : goal.bounds-words-at-2
bounds-words-at-2 c =
    let q = c.requires in
    let room = long_room c.args.low c.args.high c.args.next (place c.args.at.now c.args.words.now q.held q.blocks) q.texts q.c q.index q.addresses q.done q.below q.pushes q.room in
    omega (arith, room, length-set c.args.words.now c.args.at.now.top c.args.low)

pub returns-clause-pushes : goal.returns-clause-pushes
returns-clause-pushes c = λ held blocks texts x index addresses done below h.
    let q = c.requires in
    let room = long_room c.args.low c.args.high c.args.next (place c.args.at.now c.args.words.now q.held q.blocks) q.texts q.c q.index q.addresses q.done q.below q.pushes q.room in
    long_pushed c.args.low c.args.high c.args.next (place c.args.at.now c.args.words.now held blocks) texts x index addresses done below h _ refl refl room

pub returns-clause-stays : goal.returns-clause-stays
returns-clause-stays c =
    let q = c.requires in
    let room = long_room c.args.low c.args.high c.args.next (place c.args.at.now c.args.words.now q.held q.blocks) q.texts q.c q.index q.addresses q.done q.below q.pushes q.room in
    let first = length-set c.args.words.now c.args.at.now.top c.args.low in
    let second = length-set (set c.args.words.now c.args.at.now.top c.args.low) (c.args.at.now.top + 1) c.args.high in
    record { same = refl; top_within = omega (arith, room, first, second) }
