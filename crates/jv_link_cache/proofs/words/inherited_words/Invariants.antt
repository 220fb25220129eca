use Rattle.std.proofs.Common.{◌≡◌, ◌+◌, drop}
use Rattle.std.specs.Prelude.{sum_by}
use Rattle.jv_meaning_world.specs.Numbers.{classes_at}
use Rattle.jv_link_cache.specs.Inside.Words.{own_words}
use Rattle.jv_link_cache.proofs.words.inherited_words.Given as goal

abbrev pub invariant-loop-superclass : goal.invariant-loop-superclass
invariant-loop-superclass l =
    l.words + sum_by own_words (classes_at l.table (drop l.superclass-index l.superclass-items))
    ≡ sum_by own_words (classes_at l.table l.superclass-items)
