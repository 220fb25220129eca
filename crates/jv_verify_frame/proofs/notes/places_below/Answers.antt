use Rattle.std.proofs.Common.{◌<◌, refl, arith}
use Rattle.jv_verify_frame.proofs.Noting.{none_from}
use Rattle.jv_verify_frame.proofs.notes.places_below.Goals as goal

pub returns : goal.returns
returns c = λ k e.
    let below : k < c.least.result = none_from c.least.result c.args.items.now k c.args.object (c.least.ensures.tops c.args.items.now refl c.requires) e in
    c.loop-place.invariant k (omega (arith, below, c.in-Ok.ensures {u = tt}, c.loop-place-test.false)) e
