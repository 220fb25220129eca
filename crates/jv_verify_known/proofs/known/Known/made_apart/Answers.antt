use Rattle.std.proofs.Common.{arith}
use Rattle.jv_verify_known.proofs.Making.{made_apart_some}
use Rattle.jv_verify_known.proofs.known.Known.made_apart.Goals as goal

pub returns-in-Some : goal.returns-in-Some
returns-in-Some c =
    made_apart_some (record {
      words = c.self.inside.words;
      writes = c.self.inside.writes;
      stamps = c.self.inside.stamps;
      origin = c.self.inside.origin;
      merged = c.self.inside.merged;
    }) c.args.self.now c.self.view_is c.in-Some.origin c.args.place c.agree.result c.max.result c.in-Some.is c.agree.ensures
    (omega (arith, c.max.ensures, c.count-count.ensures)) (omega (arith, c.max.ensures, c.count.ensures))
