use Rattle.std.proofs.Common.{arith}
use Rattle.jv_verify_known.proofs.Making.{same_both, set_stretch_more}
use Rattle.jv_verify_known.proofs.setting.set_words.Goals as goal

pub loop-at-preserved : goal.loop-at-preserved
loop-at-preserved c = record {
  least = omega (arith, c.max-end.ensures);
  within = omega (arith, c.max-end.ensures, c.stretch-first.ensures.some, c.loop-at-test.true, c.loop-at.invariant.within);
  set =
      set_stretch_more c.args.types.now c.args.words.now c.args.place c.args.writes.now c.loop-at.writes c.set_stretch.new.writes
      c.args.frame.now.locals c.loop-at.frame.locals c.set_stretch.new.frame.locals c.stretch-first.result.1.now c.stretch-first.result.0 c.max-end.result c.loop-at.at c.args.to
      c.loop-at.invariant.set c.loop-at.invariant.within c.stretch-first.ensures.words (omega (arith, c.loop-at.invariant.within, c.requires.to))
      (omega (arith, c.max-end.ensures)) (omega (arith, c.max-end.ensures, c.stretch-first.ensures.some, c.loop-at-test.true)) c.set_stretch.ensures.set;
  same = same_both c.args.frame.now c.loop-at.frame c.set_stretch.new.frame c.loop-at.invariant.same c.set_stretch.ensures.same;
}
