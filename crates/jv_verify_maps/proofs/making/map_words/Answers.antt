use Rattle.std.proofs.Common.{arith}
use Rattle.jv_verify_maps.proofs.Whole.{made_result}
use Rattle.jv_verify_maps.proofs.making.map_words.Goals as goal

pub returns : goal.returns
returns c =
    made_result c.args.types.now c.args.frames.now c.loop-place.words.items c.loop-place.made.items c.loop-place.place c.of.result
    (omega (arith, c.loop-place-test.false, c.count-place-end.ensures)) c.loop-place.invariant c.of.ensures.kept c.of.ensures.with_this
