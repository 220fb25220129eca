use Rattle.std.proofs.Common.{refl, arith}
use Rattle.std.proofs.lemmas.List.{length-set}
use Rattle.jv_interp_held.specs.Executing.{place}
use Rattle.jv_interp_objects.proofs.ConstantPushed.{int_room, int_pushed}
use Rattle.jv_interp_objects.proofs.constants.push_int.Goals as goal

pub bounds-words-at : goal.bounds-words-at
bounds-words-at c =
    let q = c.requires in
    int_room c.args.bits c.args.next (place c.args.at.now c.args.words.now q.held q.blocks) q.texts q.c q.index q.addresses q.done q.below q.pushes q.room

pub returns-clause-pushes : goal.returns-clause-pushes
returns-clause-pushes c = λ held blocks texts x index addresses done below h.
    let q = c.requires in
    let room = int_room c.args.bits c.args.next (place c.args.at.now c.args.words.now q.held q.blocks) q.texts q.c q.index q.addresses q.done q.below q.pushes q.room in
    int_pushed c.args.bits c.args.next (place c.args.at.now c.args.words.now held blocks) texts x index addresses done below h _ refl refl room

pub returns-clause-stays : goal.returns-clause-stays
returns-clause-stays c =
    let q = c.requires in
    let room = int_room c.args.bits c.args.next (place c.args.at.now c.args.words.now q.held q.blocks) q.texts q.c q.index q.addresses q.done q.below q.pushes q.room in
    record { same = refl; top_within = omega (arith, room, length-set c.args.words.now c.args.at.now.top c.args.bits) }
