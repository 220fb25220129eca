use Rattle.std.proofs.Common.{◌<◌, subst}
use Rattle.jv_link_cache.proofs.Going.{classes_go_on}
use Rattle.jv_link_cache.proofs.words.all_words.Goals as goal

pub loop-number-preserved : goal.loop-number-preserved
loop-number-preserved c =
    rw c.in_ok-push.ensures.items
    (classes_go_on c.args.table.now c.loop-number.number c.in_ok-object.object c.loop-number.statics c.in_ok-words.words.1 c.loop-number.all.items c.in_ok-words.words.0 c.class_at.result.now
    (subst (λ n. c.loop-number.number < n) c.count-number-end.ensures c.loop-number-test.true)
    c.class_at.ensures c.in_ok-object.ensures c.in_ok-words.ensures.words c.in_ok-words.ensures.statics c.loop-number.invariant)
