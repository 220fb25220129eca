use Rattle.std.proofs.Common.{◌/◌}
use Rattle.jv_verify_known.proofs.Beside.{written_again}
use Rattle.jv_verify_known.proofs.known.Known.write.Goals as goal

pub returns-clause-known : goal.returns-clause-known
returns-clause-known c =
    written_again (record {
      words = c.self.inside.words;
      writes = c.self.inside.writes;
      stamps = c.self.inside.stamps;
      origin = c.self.inside.origin;
      merged = c.self.inside.merged;
    }) c.args.self.now c.self.view_is c.write.new.self (c.args.place / 16) c.self.invariant.asked c.self.invariant.made c.write.ensures
