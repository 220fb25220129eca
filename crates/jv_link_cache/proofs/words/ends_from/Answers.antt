use Rattle.jv_link_cache.proofs.Going.{ends_go_on}
use Rattle.jv_link_cache.proofs.words.ends_from.Goals as goal

pub loop-member-preserved : goal.loop-member-preserved
loop-member-preserved c =
    ends_go_on c.args.class.now.class.fields c.loop-member.member c.field.result c.loop-member.ends c.in_ok-ends.ends c.args.first c.field.ensures c.in_ok-ends.ensures c.loop-member.invariant
