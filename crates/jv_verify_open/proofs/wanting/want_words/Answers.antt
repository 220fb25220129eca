use Rattle.std.proofs.Common.{refl, arith}
use Rattle.jv_verify_open.proofs.Stretched.{from_above, then_more}
use Rattle.jv_verify_open.proofs.wanting.want_words.Goals as goal

pub loop-left-preserved : goal.loop-left-preserved
loop-left-preserved c =
    let less = c.in_ok-left.ensures.some in
    let within = c.loop-left.invariant.0 in (
      omega (arith, less, within),
      then_more c.args.at.types.now c.args.at.words.now c.args.at.offset c.args.words (record c.args.words { to = c.loop-left.left }) c.in_ok-left.left c.loop-left.left
          c.args.wants.now c.loop-left.wants c.want_last.new.wants refl refl refl within c.loop-left.invariant.1 c.in_ok-left.ensures.wanted,
    )

pub returns : goal.returns
returns c =
    let stop = c.loop-left-test.false in
    from_above c.args.at.types.now c.args.at.words.now c.args.at.offset c.args.words c.loop-left.left c.args.words.from c.args.wants.now c.loop-left.wants (omega (arith, stop))
    c.loop-left.invariant.1
