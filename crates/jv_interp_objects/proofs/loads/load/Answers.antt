use Rattle.std.proofs.Common.{refl, arith}
use Rattle.jv_interp_held.specs.Executing.{place}
use Rattle.jv_interp_objects.proofs.Components.{raises, inside, block_length, length_word, raises_index, component, got_word}
use Rattle.jv_interp_objects.proofs.loads.load.Goals as goal

pub returns-then-array-eq0-clause-loads : goal.returns-then-array-eq0-clause-loads
returns-then-array-eq0-clause-loads g c = λ texts x test addresses done below h.
    raises 1 c.args.next (place c.args.at.now c.args.words.now c.args.held.now (g.S.Store.content c.args.store.now)) texts x test addresses
    done below h c.if-array-eq0.true

pub get-requires : goal.get-requires
get-requires g c =
    let here = place c.args.at.now c.args.words.now c.args.held.now (g.S.Store.content c.args.store.now) in
    let q = c.requires in
    let i = inside 1 c.args.next here q.texts q.c q.test q.addresses q.done q.below q.loads c.if-array-eq0.false in
    let size = block_length 1 c.args.next here q.texts q.c q.test q.addresses q.done q.below q.loads i in
    omega (arith, size)

pub returns-then-get-index-clause-loads : goal.returns-then-get-index-clause-loads
returns-then-get-index-clause-loads g c = λ texts x test addresses done below h.
    let here = place c.args.at.now c.args.words.now c.args.held.now (g.S.Store.content c.args.store.now) in
    let i = inside 1 c.args.next here texts x test addresses done below h c.if-array-eq0.false in
    let word = length_word 1 c.args.next here texts x test addresses done below h i in
    raises_index 1 c.args.next here texts x test addresses done below h i
    (let e = c.get.ensures in let w = c.if-get-index.true in omega (arith, e, w, word))

pub overflow_add-index : goal.overflow_add-index
overflow_add-index g c =
    let here = place c.args.at.now c.args.words.now c.args.held.now (g.S.Store.content c.args.store.now) in
    let q = c.requires in
    let i = inside 1 c.args.next here q.texts q.c q.test q.addresses q.done q.below q.loads c.if-array-eq0.false in
    let word = length_word 1 c.args.next here q.texts q.c q.test q.addresses q.done q.below q.loads i in
    let few = i.stands.few in
    let e = c.get.ensures in
    let w = c.if-get-index.false in
    omega (arith, e, w, word, few)

pub get-requires-2 : goal.get-requires-2
get-requires-2 g c =
    let here = place c.args.at.now c.args.words.now c.args.held.now (g.S.Store.content c.args.store.now) in
    let q = c.requires in
    let i = inside 1 c.args.next here q.texts q.c q.test q.addresses q.done q.below q.loads c.if-array-eq0.false in
    let word = length_word 1 c.args.next here q.texts q.c q.test q.addresses q.done q.below q.loads i in
    let size = block_length 1 c.args.next here q.texts q.c q.test q.addresses q.done q.below q.loads i in
    let e = c.get.ensures in
    let w = c.if-get-index.false in
    omega (arith, e, w, word, size)

pub returns-clause-loads : goal.returns-clause-loads
returns-clause-loads g c = λ texts x test addresses done below h.
    let here = place c.args.at.now c.args.words.now c.args.held.now (g.S.Store.content c.args.store.now) in
    let i = inside 1 c.args.next here texts x test addresses done below h c.if-array-eq0.false in
    let word = length_word 1 c.args.next here texts x test addresses done below h i in
    let k =
    component 1 c.args.next here texts x test addresses done below h i
    (let e = c.get.ensures in let w = c.if-get-index.false in omega (arith, e, w, word)) in
    rw c.get-2.ensures (got_word 1 c.args.next here texts x test addresses done below h i k _ refl refl refl)
