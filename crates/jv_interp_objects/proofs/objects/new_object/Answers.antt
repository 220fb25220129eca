use Rattle.std.proofs.Common.{◌+◌, ◌≤◌, refl, arith}
use Rattle.std.proofs.lemmas.List.{length-set}
use Rattle.jv_interp_held.specs.Executing.{place}
use Rattle.jv_interp_objects.proofs.Created.{lacking, has_room, created}
use Rattle.jv_interp_objects.proofs.Lacking.{lacking_unmoved}
use Rattle.jv_interp_objects.proofs.objects.new_object.Goals as goal

pub returns-in-None-clause-creates : goal.returns-in-None-clause-creates
returns-in-None-clause-creates g c = λ texts x l addresses done below h.
    let here = place c.args.at.now c.args.words.now c.args.held.now (g.S.Store.content c.args.store.now) in
    let paid = rw c.in-None.is at c.in_ok-made.ensures.paid in
    lacking c.args.class c.args.size c.args.next here texts x l addresses done below h
    c.pay_object.new.cells (g.S.Store.content c.pay_object.new.store) paid

pub bounds-words-at : goal.bounds-words-at
bounds-words-at g c =
    let here = place c.args.at.now c.args.words.now c.args.held.now (g.S.Store.content c.args.store.now) in
    let q = c.requires.can in
    let made = rw c.in-Some.is at c.in_ok-made.ensures.paid in
    let enough : 1 + c.args.size ≤ c.args.held.now.cells = let e = made.paid in omega (arith, e) in
    has_room c.args.class c.args.size c.args.next here q.texts q.c q.l q.addresses q.done q.below q.creates enough q.room

pub returns-in-Some-clause-creates : goal.returns-in-Some-clause-creates
returns-in-Some-clause-creates g c = λ texts x l addresses done below h.
    let here = place c.args.at.now c.args.words.now c.args.held.now (g.S.Store.content c.args.store.now) in
    let q = c.requires.can in
    let made = rw c.in-Some.is at c.in_ok-made.ensures.paid in
    let enough : 1 + c.args.size ≤ c.args.held.now.cells = let e = made.paid in omega (arith, e) in
    let room = has_room c.args.class c.args.size c.args.next here q.texts q.c q.l q.addresses q.done q.below q.creates enough q.room in
    created c.args.class c.args.size c.args.next here texts x l addresses done below h
    c.pay_object.new.cells (g.S.Store.content c.pay_object.new.store) c.in-Some.address _ c.requires.few made refl refl room

pub returns-in-Some-clause-stays : goal.returns-in-Some-clause-stays
returns-in-Some-clause-stays g c =
    let here = place c.args.at.now c.args.words.now c.args.held.now (g.S.Store.content c.args.store.now) in
    let q = c.requires.can in
    let made = rw c.in-Some.is at c.in_ok-made.ensures.paid in
    let enough : 1 + c.args.size ≤ c.args.held.now.cells = let e = made.paid in omega (arith, e) in
    let room = has_room c.args.class c.args.size c.args.next here q.texts q.c q.l q.addresses q.done q.below q.creates enough q.room in
    record { same = refl; top_within = omega (arith, room, length-set c.args.words.now c.args.at.now.top c.in-Some.address) }

pub returns-in-None-clause-unmoved : goal.returns-in-None-clause-unmoved
returns-in-None-clause-unmoved g c =
    let paid = rw c.in-None.is at c.in_ok-made.ensures.paid in
    lacking_unmoved c.args.at.now c.args.words.now c.args.held.now _ c.pay_object.new.cells (g.S.Store.content c.args.store.now)
    (g.S.Store.content c.pay_object.new.store) paid
