use Rattle.std.proofs.Common.{◌-◌, refl, arith}
use Rattle.jv_interp_held.specs.Executing.{place}
use Rattle.jv_interp_objects.proofs.LikeMade.{two, raises_null, liked, block_length, raises_negative, lacking, made}
use Rattle.jv_interp_objects.proofs.host_objects.array_like.Goals as goal

pub returns-then-like-eq0-clause-makes : goal.returns-then-like-eq0-clause-makes
returns-then-like-eq0-clause-makes g c = λ texts x number value rest addresses done below h.
    let here = place c.args.at.now c.args.words.now c.args.held.now (g.S.Store.content c.args.store.now) in
    raises_null c.args.next here texts x number value rest addresses done below h c.if-like-eq0.true

pub returns-then-count-gt2147483647-clause-makes : goal.returns-then-count-gt2147483647-clause-makes
returns-then-count-gt2147483647-clause-makes g c = λ texts x number value rest addresses done below h.
    let here = place c.args.at.now c.args.words.now c.args.held.now (g.S.Store.content c.args.store.now) in
    let m = liked c.args.next here texts x number value rest addresses done below h c.if-like-eq0.false in
    raises_negative c.args.next here texts x number value rest addresses done below h m c.if-count-gt2147483647.true
    (let f = c.type_inv.words (c.args.at.now.top - 1) in omega (arith, f))

pub get-word-requires : goal.get-word-requires
get-word-requires g c =
    let here = place c.args.at.now c.args.words.now c.args.held.now (g.S.Store.content c.args.store.now) in
    let q = c.requires.can.1 in
    block_length c.args.next here q.texts q.c q.number q.value q.rest q.addresses q.done q.below q.runs
    (liked c.args.next here q.texts q.c q.number q.value q.rest q.addresses q.done q.below q.runs c.if-like-eq0.false)

pub overflow_sub-words : goal.overflow_sub-words
overflow_sub-words g c =
    let here = place c.args.at.now c.args.words.now c.args.held.now (g.S.Store.content c.args.store.now) in
    let q = c.requires.can.1 in
    (two c.args.next here q.texts q.c q.number q.value q.rest q.addresses q.done q.below q.runs).enough

pub returns-in-Some-clause-makes : goal.returns-in-Some-clause-makes
returns-in-Some-clause-makes g c = λ texts x number value rest addresses done below h.
    let here = place c.args.at.now c.args.words.now c.args.held.now (g.S.Store.content c.args.store.now) in
    let m = liked c.args.next here texts x number value rest addresses done below h c.if-like-eq0.false in
    let paid = rw c.get-word.ensures at (rw c.in-Some.is at c.in_ok-made.ensures.paid) in
    made c.args.next here texts x number value rest addresses done below h m c.if-count-gt2147483647.false
    c.pay_array.new.cells (g.S.Store.content c.pay_array.new.store) c.in-Some.address _ paid refl refl

pub returns-in-None-clause-makes : goal.returns-in-None-clause-makes
returns-in-None-clause-makes g c = λ texts x number value rest addresses done below h.
    let here = place c.args.at.now c.args.words.now c.args.held.now (g.S.Store.content c.args.store.now) in
    let m = liked c.args.next here texts x number value rest addresses done below h c.if-like-eq0.false in
    let paid = rw c.in-None.is at c.in_ok-made.ensures.paid in
    lacking c.args.next here texts x number value rest addresses done below h m c.if-count-gt2147483647.false
    c.pay_array.new.cells (g.S.Store.content c.pay_array.new.store) paid
