use Rattle.std.proofs.Common.{◌-◌, refl, arith}
use Rattle.jv_interp_held.specs.Executing.{place}
use Rattle.jv_interp_objects.proofs.Counted.{raises, lacking, made}
use Rattle.jv_interp_objects.proofs.Lacking.{lacking_unmoved}
use Rattle.jv_interp_objects.proofs.arrays.new_array.Goals as goal

pub returns-then-count-gt2147483647-clause-makes : goal.returns-then-count-gt2147483647-clause-makes
returns-then-count-gt2147483647-clause-makes g c = λ texts x components addresses done below h.
    let here = place c.args.at.now c.args.words.now c.args.held.now (g.S.Store.content c.args.store.now) in
    raises c.args.word c.args.slots c.args.next here texts x components addresses done below h c.if-count-gt2147483647.true
    (let f = c.type_inv.words (c.args.at.now.top - 1) in omega (arith, f))

pub returns-in-None-clause-makes : goal.returns-in-None-clause-makes
returns-in-None-clause-makes g c = λ texts x components addresses done below h.
    let here = place c.args.at.now c.args.words.now c.args.held.now (g.S.Store.content c.args.store.now) in
    let paid = rw c.in-None.is at c.in_ok-made.ensures.paid in
    lacking c.args.word c.args.slots c.args.next here texts x components addresses done below h
    c.pay_array.new.cells (g.S.Store.content c.pay_array.new.store) c.if-count-gt2147483647.false paid

pub returns-in-Some-clause-makes : goal.returns-in-Some-clause-makes
returns-in-Some-clause-makes g c = λ texts x components addresses done below h.
    let here = place c.args.at.now c.args.words.now c.args.held.now (g.S.Store.content c.args.store.now) in
    let paid = rw c.in-Some.is at c.in_ok-made.ensures.paid in
    made c.args.word c.args.slots c.args.next here texts x components addresses done below h
    c.pay_array.new.cells (g.S.Store.content c.pay_array.new.store) c.in-Some.address _ c.if-count-gt2147483647.false paid refl refl

pub returns-in-None-clause-unmoved : goal.returns-in-None-clause-unmoved
returns-in-None-clause-unmoved g c =
    let paid = rw c.in-None.is at c.in_ok-made.ensures.paid in
    lacking_unmoved c.args.at.now c.args.words.now c.args.held.now _ c.pay_array.new.cells (g.S.Store.content c.args.store.now)
    (g.S.Store.content c.pay_array.new.store) paid
