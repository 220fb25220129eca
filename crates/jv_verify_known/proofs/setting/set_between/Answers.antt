use Rattle.std.proofs.Common.{arith}
use Rattle.jv_verify_known.proofs.Making.{set_top_and_words}
use Rattle.jv_verify_known.proofs.setting.set_between.Goals as goal

pub returns-clause-set : goal.returns-clause-set
returns-clause-set c =
    set_top_and_words c.args.types.now c.args.words.now c.args.place c.args.writes.now c.set_tops.new.writes c.set_words.new.writes
    c.args.frame.now.locals c.set_tops.new.frame.locals c.set_words.new.frame.locals c.count-count.result c.args.from c.args.to c.max.result c.min.result
    c.count-count.ensures (omega (arith, c.max.ensures), omega (arith, c.max.ensures), λ k least high. omega (arith, c.max.ensures, least, high)) c.min.ensures
    (c.set_tops.ensures.set c.args.types.now) c.set_words.ensures.set
