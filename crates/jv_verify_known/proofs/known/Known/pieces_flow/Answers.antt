use Rattle.std.proofs.Common.{arith}
use Rattle.jv_verify_known.proofs.Comparing.{pieces_again}
use Rattle.jv_verify_known.proofs.known.Known.pieces_flow.Goals as goal

pub loop-to-preserved : goal.loop-to-preserved
loop-to-preserved c = record {
  within = omega (arith, c.piece-since.ensures.below, c.loop-to.invariant.within);
  all =
      pieces_again (record {
        words = c.self.inside.words;
        writes = c.self.inside.writes;
        stamps = c.self.inside.stamps;
        origin = c.self.inside.origin;
        merged = c.self.inside.merged;
      }) c.args.self.now c.self.view_is c.args.types.now c.args.frame.now.locals c.args.place c.piece-since.result.0 c.piece-since.result.1 c.loop-to.to c.args.count
      (c.piece-since.ensures.flowed c.args.types.now c.args.frame.now.locals c.requires.known) (c.written_flow.ensures.all c.if-not-written_flow.false) c.loop-to.invariant.all;
}
