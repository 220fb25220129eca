use Rattle.std.proofs.Common.{◌∙◌, ◌-◌, length, ap, sym, refl, List, arith}
use Rattle.jv_format.proofs.Laws.{just}
use Rattle.jv_pool.specs.Constants.{Entry}
use Rattle.jv_pool.proofs.Listing.{Listed-start, Listed-front, Listed-push, Listed-ends, Listed-cut, Listed-done}
use Rattle.jv_pool.proofs.reading.listed.Goals as goal

pub returns-in_default : goal.returns-in_default
returns-in_default c =
    Listed-ends c.args.length c.loop.counter c.loop.unusable c.loop.places.items c.loop.rest.now c.args.bytes.now c.loop-test.true (sym c.in_default.ensures) c.loop.invariant

pub loop-preserved : goal.loop-preserved
loop-preserved c =
    rw c.in_ok-push.ensures.items (Listed-push c.args.length c.loop.counter c.loop.unusable c.loop.places.items c.loop.rest.now c.args.bytes.now c.in-Some.entry c.in-Some.more c.in-Some.after.now
    (length c.args.bytes.now - length c.loop.rest.now) c.in_ok-place.place c.is_some.result
    c.loop-test.true (λ i. omega (arith, c.type_inv.bytes i)) refl c.is_some.ensures c.in_ok-place.ensures.ok (sym c.in-Some.ensures) c.loop.invariant)

pub overflow_sub-before : goal.overflow_sub-before
overflow_sub-before c = Listed-front c.args.length c.loop.counter c.loop.unusable c.loop.places.items c.loop.rest.now c.args.bytes.now c.loop.invariant

pub returns-then-unusable : goal.returns-then-unusable
returns-then-unusable c = Listed-cut c.args.length c.loop.counter c.loop.unusable c.loop.places.items c.loop.rest.now c.args.bytes.now c.loop-test.false c.if-unusable.true c.loop.invariant

pub returns : goal.returns
returns c =
    Listed-done c.args.length c.loop.counter c.loop.unusable c.loop.places.items c.loop.rest.now c.args.bytes.now c.loop-test.false c.if-unusable.false c.loop.invariant
    ∙ ap (λ (xs : List Entry). just (xs, c.loop.rest.now)) (sym c.new.ensures)

pub loop-init : goal.loop-init
loop-init c = rw c.in_ok-places.ensures.items (Listed-start c.args.length c.args.bytes.now)
