use Rattle.std.proofs.Common.{arith}
use Rattle.jv_verify_known.proofs.Comparing.{piece_shown}
use Rattle.jv_verify_known.proofs.known.Known.piece.Goals as goal

pub overflow_add-last : goal.overflow_add-last
overflow_add-last c = let fits = c.len-count.type_inv in omega (arith, fits, c.len-count.ensures, c.alike-first.ensures.within)

pub overflow_add-last-2 : goal.overflow_add-last-2
overflow_add-last-2 c = let fits = c.len-count.type_inv in omega (arith, fits, c.len-count.ensures, c.alike-first.ensures.within)

pub returns-in_default-clause-flowed : goal.returns-in_default-clause-flowed
returns-in_default-clause-flowed c =
    piece_shown (record {
      words = c.self.inside.words;
      writes = c.self.inside.writes;
      stamps = c.self.inside.stamps;
      origin = c.self.inside.origin;
      merged = c.self.inside.merged;
    }) c.args.self.now c.self.view_is c.args.place c.alike-first.result.0 c.alike-first.result.1 c.args.to c.greatest-since.result c.alike-first.ensures.agree
    c.greatest-since.ensures c.are_written.ensures c.requires.blocks

pub returns-then-from-block-clause-flowed : goal.returns-then-from-block-clause-flowed
returns-then-from-block-clause-flowed c =
    piece_shown (record {
      words = c.self.inside.words;
      writes = c.self.inside.writes;
      stamps = c.self.inside.stamps;
      origin = c.self.inside.origin;
      merged = c.self.inside.merged;
    }) c.args.self.now c.self.view_is c.args.place c.alike-first.result.0 c.alike-first.result.1 c.args.to c.greatest-since.result c.alike-first.ensures.agree
    c.greatest-since.ensures c.are_written.ensures c.requires.blocks

pub returns-clause-flowed : goal.returns-clause-flowed
returns-clause-flowed c =
    piece_shown (record {
      words = c.self.inside.words;
      writes = c.self.inside.writes;
      stamps = c.self.inside.stamps;
      origin = c.self.inside.origin;
      merged = c.self.inside.merged;
    }) c.args.self.now c.self.view_is c.args.place c.alike-first.result.0 c.alike-first.result.1 c.args.to c.greatest-since.result c.alike-first.ensures.agree
    c.greatest-since.ensures c.are_written.ensures c.requires.blocks
