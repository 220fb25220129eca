use Rattle.std.proofs.Common.{◌≡◌, ◌++◌, drop}
use Rattle.jv_link_cache.specs.Inside.Words.{words_from}
use Rattle.jv_link_cache.proofs.words.words_from.Given as goal

abbrev pub invariant-loop-member : goal.invariant-loop-member
invariant-loop-member l = l.words.items ++ words_from l.ends (drop l.member l.class.class.fields) ≡ words_from l.fn.first l.class.class.fields
