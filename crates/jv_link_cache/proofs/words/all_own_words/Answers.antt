use Rattle.std.proofs.Common.{◌<◌, ◌∙◌, ap, subst}
use Rattle.jv_link_cache.specs.Inside.Words.{no_words, ends_from}
use Rattle.jv_link_cache.specs.declared.words.Ends.{Ends}
use Rattle.jv_link_cache.proofs.Going.{own_goes_on}
use Rattle.jv_meaning_world.specs.World.{Loaded}
use Rattle.jv_link_cache.proofs.words.all_own_words.Goals as goal

pub loop-number-preserved : goal.loop-number-preserved
loop-number-preserved c =
    rw c.in_ok-push.ensures.items
    (own_goes_on c.args.table.now c.loop-number.number c.in_ok-ends.ends.object c.loop-number.own.items
    (subst (λ n. c.loop-number.number < n) c.count-number-end.ensures c.loop-number-test.true)
    (λ l at. ap (λ (e : Ends). e.object) c.in_ok-ends.ensures ∙ ap (λ (k : Loaded). (ends_from no_words k.class.fields).object) (c.class_at.ensures l at))
    c.loop-number.invariant)
