use Rattle.std.proofs.Common.{refl}
use Rattle.jv_interp_held.specs.Executing.{place}
use Rattle.jv_interp_objects.proofs.Length.{raises, measured, block_length, goes}
use Rattle.jv_interp_objects.proofs.loads.array_length.Goals as goal

pub returns-then-array-eq0-clause-measures : goal.returns-then-array-eq0-clause-measures
returns-then-array-eq0-clause-measures g c = λ texts x addresses done below h.
    raises c.args.next (place c.args.at.now c.args.words.now c.args.held.now (g.S.Store.content c.args.store.now)) texts x addresses done
    below h c.if-array-eq0.true

pub get-requires : goal.get-requires
get-requires g c =
    let r = c.requires.measures in
    let here = place c.args.at.now c.args.words.now c.args.held.now (g.S.Store.content c.args.store.now) in
    let q = c.requires in
    block_length c.args.next here q.texts q.c q.addresses q.done q.below q.measures
    (measured c.args.next here q.texts q.c q.addresses q.done q.below q.measures c.if-array-eq0.false)

pub returns-clause-measures : goal.returns-clause-measures
returns-clause-measures g c = λ texts x addresses done below h.
    let here = place c.args.at.now c.args.words.now c.args.held.now (g.S.Store.content c.args.store.now) in
    let m = measured c.args.next here texts x addresses done below h c.if-array-eq0.false in
    rw c.get.ensures (goes c.args.next here texts x addresses done below h m _ refl refl)
