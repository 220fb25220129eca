use Rattle.jv_link_cache.proofs.Going.{inherited_go_on}
use Rattle.jv_link_cache.proofs.words.inherited_words.Goals as goal

pub loop-superclass-preserved : goal.loop-superclass-preserved
loop-superclass-preserved c =
    let above = c.superclasses-superclass-items in
    inherited_go_on c.args.table.now above.result.now c.args.own.now c.loop-superclass.superclass-index c.loop-superclass.words c.in_ok-words.words
    c.loop-superclass-test.true above.ensures.numbers c.requires.own c.in_ok-words.ensures
    c.loop-superclass.invariant
