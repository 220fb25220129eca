use Rattle.std.proofs.Common.{arith}
use Rattle.jv_verify_known.proofs.Comparing.{words_more, words_not}
use Rattle.jv_verify_known.proofs.flowing.words_flow.Goals as goal

pub returns-then-not-stretch_flows-clause-one : goal.returns-then-not-stretch_flows-clause-one
returns-then-not-stretch_flows-clause-one c = λ e.
    words_not c.args.types.now c.args.words.now c.args.frame.now.locals c.args.place c.stretch-first.result.1.now c.stretch-first.result.0 c.max-end.result c.loop-at.at
    c.stretch-first.ensures.words (omega (arith, c.loop-at.invariant.within, c.requires.words)) (omega (arith, c.max-end.ensures))
    (c.stretch_flows.ensures.one c.if-not-stretch_flows.true)

pub loop-at-preserved : goal.loop-at-preserved
loop-at-preserved c = record {
  least = omega (arith, c.max-end.ensures);
  within = omega (arith, c.max-end.ensures, c.stretch-first.ensures.some, c.loop-at-test.true, c.loop-at.invariant.within);
  all =
      words_more c.args.types.now c.args.words.now c.args.frame.now.locals c.args.place c.stretch-first.result.1.now c.stretch-first.result.0 c.max-end.result c.loop-at.at
      c.stretch-first.ensures.words (omega (arith, c.loop-at.invariant.within, c.requires.words)) (omega (arith, c.max-end.ensures))
      c.args.to (c.stretch_flows.ensures.all c.if-not-stretch_flows.false) c.loop-at.invariant.all;
}
