use Rattle.jv_verify_known.proofs.Making.{all_set_now, known_set_now, many_set}
use Rattle.jv_verify_known.proofs.Words.{all_are}
use Rattle.jv_verify_known.proofs.known.Known.set_locals.Goals as goal

pub returns-clause-locals : goal.returns-clause-locals
returns-clause-locals c = λ map at.
    all_are c.args.types.now c.args.self.now.words c.args.place map at c.set_between.new.frame.locals c.args.max_locals
    (many_set c.args.types.now (record {
      words = c.self.inside.words;
      writes = c.self.inside.writes;
      stamps = c.self.inside.stamps;
      origin = c.self.inside.origin;
      merged = c.self.inside.merged;
    }) c.args.self.now c.self.view_is c.args.place c.args.max_locals c.set_written.new.writes c.set_between.new.writes
    c.args.frame.now.locals c.set_written.new.frame.locals c.set_between.new.frame.locals c.made_apart-from.result.0 c.made_apart-from.result.1
    c.requires.known c.self.invariant.asked c.requires.locals c.requires.room c.made_apart-from.ensures c.set_written.ensures.set c.set_between.ensures.set) c.requires.room
    (all_set_now c.args.types.now (record {
      words = c.self.inside.words;
      writes = c.self.inside.writes;
      stamps = c.self.inside.stamps;
      origin = c.self.inside.origin;
      merged = c.self.inside.merged;
    }) c.args.self.now c.self.view_is c.args.place c.args.max_locals c.set_written.new.writes c.set_between.new.writes
    c.args.frame.now.locals c.set_written.new.frame.locals c.set_between.new.frame.locals c.made_apart-from.result.0 c.made_apart-from.result.1
    c.requires.known c.self.invariant.asked c.requires.locals c.requires.room c.made_apart-from.ensures c.set_written.ensures.set c.set_between.ensures.set)

pub returns-clause-known : goal.returns-clause-known
returns-clause-known c =
    known_set_now c.args.types.now (record {
      words = c.self.inside.words;
      writes = c.self.inside.writes;
      stamps = c.self.inside.stamps;
      origin = c.self.inside.origin;
      merged = c.self.inside.merged;
    }) c.args.self.now c.self.view_is c.args.place c.args.max_locals c.set_written.new.writes c.set_between.new.writes
    c.args.frame.now.locals c.set_written.new.frame.locals c.set_between.new.frame.locals c.made_apart-from.result.0 c.made_apart-from.result.1
    c.requires.known c.self.invariant.asked c.requires.locals c.requires.room c.made_apart-from.ensures c.set_written.ensures.set c.set_between.ensures.set
    (record {
      words = c.self-2.inside.words;
      writes = c.self-2.inside.writes;
      stamps = c.self-2.inside.stamps;
      origin = c.self-2.inside.origin;
      merged = c.self-2.inside.merged;
    }) c.ask-self-inside.new.self c.ask-self-inside.result c.self-2.view_is c.ask-self-inside.ensures.same
