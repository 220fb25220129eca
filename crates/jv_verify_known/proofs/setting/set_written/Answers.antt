use Rattle.std.proofs.Common.{arith}
use Rattle.jv_verify_known.proofs.Making.{same_both, stay_both, written_more, written_none}
use Rattle.jv_verify_known.proofs.setting.set_written.Goals as goal

pub loop-found-preserved : goal.loop-found-preserved
loop-found-preserved c = record {
  stay =
      stay_both c.args.types.now c.args.writes.now c.loop-found.writes c.set_between.new.writes c.args.frame.now.locals c.loop-found.frame.locals
      c.set_between.new.frame.locals c.loop-found.invariant.stay c.set_between.ensures.set.stay;
  done =
      written_more c.args.types.now c.args.words.now c.args.place c.args.since c.args.to c.args.writes.now c.args.frame.now.locals c.loop-found.writes c.set_between.new.writes
      c.loop-found.frame.locals c.set_between.new.frame.locals c.loop-found.block c.in-Some.found c.range_of-first.result.0 c.range_of-first.result.1
      c.loop-found.invariant.stay c.requires.since c.loop-found.invariant.done c.in-Some.ensures.some.first c.set_between.ensures.set
      (λ k least less within.
      (omega (arith, c.range_of-first.ensures.from, least), omega (arith, c.range_of-first.ensures.to, less, within))) c.requires.to;
  same = same_both c.args.frame.now c.loop-found.frame c.set_between.new.frame c.loop-found.invariant.same c.set_between.ensures.same;
}

pub returns-clause-set : goal.returns-clause-set
returns-clause-set c =
    written_none c.args.types.now c.args.words.now c.args.place c.args.since c.args.to c.args.writes.now c.args.frame.now.locals c.loop-found.writes c.loop-found.frame.locals
    c.loop-found.block c.loop-found.invariant.stay c.requires.since c.loop-found.invariant.done
    (λ k least less. c.in_default.ensures.none k least (omega (arith, less, c.blocks-end.ensures.many, c.loop-found.invariant.stay.blocks)))
    (omega (arith, c.requires.to, c.requires.blocks))
