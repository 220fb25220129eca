use Rattle.std.proofs.Common.{refl, arith}
use Rattle.std.proofs.lemmas.List.{length-set}
use Rattle.jv_interp_held.specs.Executing.{place}
use Rattle.jv_interp_objects.proofs.ConstantPushed.{loads, string_room, string_pushed, string_lacks, string_unmoved}
use Rattle.jv_interp_objects.proofs.constants.push_string.Goals as goal

pub literal-requires-clause-can : goal.literal-requires-clause-can
literal-requires-clause-can g c =
    let here = place c.args.at.now c.args.words.now c.args.held.now (g.S.Store.content c.args.store.now) in
    let q = c.requires.can in
    let l = loads c.args.number c.args.text.now c.args.next here q.texts q.c q.index q.addresses q.done q.below q.pushes in
    record { texts = q.texts; program = q.c.program; memory = q.c.memory; addresses = q.addresses; made = l.made; finds = l.finds }

pub bounds-words-at : goal.bounds-words-at
bounds-words-at g c =
    let here = place c.args.at.now c.args.words.now c.args.held.now (g.S.Store.content c.args.store.now) in
    let q = c.requires.can in
    let l = loads c.args.number c.args.text.now c.args.next here q.texts q.c q.index q.addresses q.done q.below q.pushes in
    let finds = rw c.in-Some.is at c.in_ok-found.ensures.finds in
    string_room c.args.number c.args.text.now c.args.next here q.texts q.c q.index q.addresses q.done q.below q.pushes
    c.literal.new.held (g.S.Store.content c.literal.new.store) c.in-Some.address (finds q.texts q.c.program q.c.memory q.addresses l.made l.finds) q.room

pub returns-in-Some-clause-pushes : goal.returns-in-Some-clause-pushes
returns-in-Some-clause-pushes g c = λ texts x index addresses done below h.
    let here = place c.args.at.now c.args.words.now c.args.held.now (g.S.Store.content c.args.store.now) in
    let q = c.requires.can in
    let l = loads c.args.number c.args.text.now c.args.next here q.texts q.c q.index q.addresses q.done q.below q.pushes in
    let finds = rw c.in-Some.is at c.in_ok-found.ensures.finds in
    let room =
    string_room c.args.number c.args.text.now c.args.next here q.texts q.c q.index q.addresses q.done q.below q.pushes
    c.literal.new.held (g.S.Store.content c.literal.new.store) c.in-Some.address (finds q.texts q.c.program q.c.memory q.addresses l.made l.finds) q.room in
    let k = loads c.args.number c.args.text.now c.args.next here texts x index addresses done below h in
    string_pushed c.args.number c.args.text.now c.args.next here texts x index addresses done below h
    c.literal.new.held (g.S.Store.content c.literal.new.store) c.in-Some.address _ (finds texts x.program x.memory addresses k.made k.finds) refl refl room

pub returns-in-Some-clause-stays : goal.returns-in-Some-clause-stays
returns-in-Some-clause-stays g c =
    let here = place c.args.at.now c.args.words.now c.args.held.now (g.S.Store.content c.args.store.now) in
    let q = c.requires.can in
    let l = loads c.args.number c.args.text.now c.args.next here q.texts q.c q.index q.addresses q.done q.below q.pushes in
    let finds = rw c.in-Some.is at c.in_ok-found.ensures.finds in
    let room =
    string_room c.args.number c.args.text.now c.args.next here q.texts q.c q.index q.addresses q.done q.below q.pushes
    c.literal.new.held (g.S.Store.content c.literal.new.store) c.in-Some.address (finds q.texts q.c.program q.c.memory q.addresses l.made l.finds) q.room in
    record { same = refl; top_within = omega (arith, room, length-set c.args.words.now c.args.at.now.top c.in-Some.address) }

pub returns-in-None-clause-pushes : goal.returns-in-None-clause-pushes
returns-in-None-clause-pushes g c = λ texts x index addresses done below h.
    let here = place c.args.at.now c.args.words.now c.args.held.now (g.S.Store.content c.args.store.now) in
    let finds = rw c.in-None.is at c.in_ok-found.ensures.finds in
    let k = loads c.args.number c.args.text.now c.args.next here texts x index addresses done below h in
    string_lacks c.args.number c.args.text.now c.args.next here texts x index addresses done below h
    c.literal.new.held (g.S.Store.content c.literal.new.store) (finds texts x.program x.memory addresses k.made k.finds)

pub returns-in-None-clause-unmoved : goal.returns-in-None-clause-unmoved
returns-in-None-clause-unmoved g c =
    let here = place c.args.at.now c.args.words.now c.args.held.now (g.S.Store.content c.args.store.now) in
    let q = c.requires.can in
    let l = loads c.args.number c.args.text.now c.args.next here q.texts q.c q.index q.addresses q.done q.below q.pushes in
    let finds = rw c.in-None.is at c.in_ok-found.ensures.finds in
    string_unmoved c.args.number c.args.text.now c.args.next here q.texts q.c q.index q.addresses q.done q.below q.pushes
    c.literal.new.held (g.S.Store.content c.literal.new.store) (finds q.texts q.c.program q.c.memory q.addresses l.made l.finds)
