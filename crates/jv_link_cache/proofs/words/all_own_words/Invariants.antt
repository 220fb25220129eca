use Rattle.std.proofs.Common.{◌≡◌, map, take}
use Rattle.jv_link_cache.specs.Inside.Words.{own_words}
use Rattle.jv_link_cache.proofs.words.all_own_words.Given as goal

abbrev pub invariant-loop-number : goal.invariant-loop-number
invariant-loop-number l = l.own.items ≡ map own_words (take l.number l.table)
