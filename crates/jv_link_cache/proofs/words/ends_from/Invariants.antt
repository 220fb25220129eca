use Rattle.std.proofs.Common.{◌≡◌, drop}
use Rattle.jv_link_cache.specs.Inside.Words.{ends_from}
use Rattle.jv_link_cache.proofs.words.ends_from.Given as goal

abbrev pub invariant-loop-member : goal.invariant-loop-member
invariant-loop-member l = ends_from l.ends (drop l.member l.class.class.fields) ≡ ends_from l.fn.first l.class.class.fields
