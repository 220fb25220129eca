use Rattle.jv_verify_known.proofs.Beside.{asked_again}
use Rattle.jv_verify_known.proofs.known.Known.ask.Goals as goal

pub returns-clause-known : goal.returns-clause-known
returns-clause-known c =
    asked_again (record {
      words = c.self.inside.words;
      writes = c.self.inside.writes;
      stamps = c.self.inside.stamps;
      origin = c.self.inside.origin;
      merged = c.self.inside.merged;
    }) c.args.self.now c.self.view_is c.ask.new.self c.ask.ensures.same
