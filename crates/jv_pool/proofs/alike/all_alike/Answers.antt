use Rattle.std.proofs.Common.{arith}
use Rattle.jv_pool.proofs.Firsts.{AlikeBelow-push, AlikeBelow-all}
use Rattle.jv_pool.proofs.alike.all_alike.Goals as goal

pub loop-index-preserved : goal.loop-index-preserved
loop-index-preserved c =
    record {
      below = rw c.in_ok-push.ensures.items (AlikeBelow-push c.args.table.now c.loop-index.index c.loop-index.alike.items c.in_ok-first.first c.in_ok-first.ensures.alike c.loop-index.invariant.below);
      firsts = c.in_ok-first.ensures.firsts;
    }

pub returns-clause-ok : goal.returns-clause-ok
returns-clause-ok c = AlikeBelow-all c.args.table.now c.loop-index.index c.loop-index.alike.items (omega arith) c.loop-index.invariant.below
