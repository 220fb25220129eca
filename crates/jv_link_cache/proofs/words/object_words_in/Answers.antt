use Rattle.jv_link_cache.proofs.Placing.{object_found, none_beyond}
use Rattle.jv_link_cache.proofs.words.object_words_in.Goals as goal

pub returns-then-class-words : goal.returns-then-class-words
returns-then-class-words c = λ world are l at.
    object_found world c.args.words.now c.args.class c.index-words-class.result l are c.if-class-words.true at

pub returns-else-class-words : goal.returns-else-class-words
returns-else-class-words c = λ world are l at. absurd (none_beyond world c.args.words.now c.args.class l are c.if-class-words.false at)
