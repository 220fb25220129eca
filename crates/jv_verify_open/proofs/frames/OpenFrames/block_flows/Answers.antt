use Rattle.std.proofs.Common.{arith}
use Rattle.jv_verify_open.proofs.Flowing.{one_more_flows, same_again}
use Rattle.jv_verify_open.proofs.Words.{block_from, block_to}
use Rattle.jv_verify_open.proofs.frames.OpenFrames.block_flows.Goals as goal

pub loop-local-preserved : goal.loop-local-preserved
loop-local-preserved c =
    let so_far = c.loop-local.invariant in
    let low = so_far.0 in
    let less = c.loop-local-test.true in
    let to = c.saturating_add.ensures in (
      omega (arith, low),
      omega (arith, less, to),
      λ k from before within. one_more_flows c.args.at.types.now c.args.at.words.now c.args.at.offset c.args.self.now c.args.frame.now.locals c.args.block c.loop-local.local k
          c.loop-local.self c.in_ok-local_flows.field-0 so_far.4 so_far.2 c.if-not-branch.false c.in_ok-local_flows.ensures.flows from before within,
      c.in_ok-local_flows.ensures.wanting,
      same_again c.args.self.now c.loop-local.self c.local_flows.new.self so_far.4 c.in_ok-local_flows.ensures.same,
    )

pub returns-clause-all : goal.returns-clause-all
returns-clause-all c = λ t k is within.
    let stop = c.loop-local-test.false in
    let to = c.saturating_add.ensures in
    let high = block_to k c.args.block is in
    let few = c.requires.few in
    c.loop-local.invariant.2 k (block_from k c.args.block is) (omega (arith, stop, to, high, few, within)) within
