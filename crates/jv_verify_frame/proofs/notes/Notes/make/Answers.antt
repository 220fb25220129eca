use Rattle.std.proofs.Common.{◌<◌, length, refl, arith}
use Rattle.std.proofs.lemmas.Option.{slice_get-get_or}
use Rattle.jv_verify_frame.proofs.Noting.{all_noted, one_noted}
use Rattle.jv_verify_frame.proofs.notes.Notes.make.Goals as goal

pub loop-place-preserved : goal.loop-place-preserved
loop-place-preserved c =
    let items = c.args.items.now in
    let place = c.loop-place.place in
    let lt : place < length items = omega (arith, c.loop-place-test.true, c.least-end.ensures.within) in
    one_noted place _ c.loop-place.self c.add.new.self items (slice_get-get_or items place _ lt) c.add.ensures c.loop-place.invariant

pub returns : goal.returns
returns c =
    let least = c.least-end.result in
    all_noted c.loop-place.place least c.loop-place.self c.args.items.now (c.least-end.ensures.tops c.args.items.now refl c.requires.tops)
    (omega (arith, c.loop-place-test.false)) c.loop-place.invariant
