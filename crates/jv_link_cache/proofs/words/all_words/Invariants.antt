use Rattle.jv_link_cache.proofs.Going.{GoesOn}
use Rattle.jv_link_cache.proofs.words.all_words.Given as goal

abbrev pub invariant-loop-number : goal.invariant-loop-number
invariant-loop-number l = GoesOn l.table l.number l.all.items l.statics
