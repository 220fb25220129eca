use Rattle.jv_link_cache.proofs.Going.{words_go_on}
use Rattle.jv_link_cache.proofs.words.words_from.Goals as goal

pub loop-member-preserved : goal.loop-member-preserved
loop-member-preserved c =
    rw c.in_ok-push.ensures.items
    (words_go_on c.args.class.now.class.fields c.loop-member.member c.field-field.result c.loop-member.ends c.in_ok-ends.ends c.args.first c.loop-member.words.items c.word_in.result
    c.field-field.ensures c.word_in.ensures c.in_ok-ends.ensures c.loop-member.invariant)
