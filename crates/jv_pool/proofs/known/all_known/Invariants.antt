use Rattle.std.specs.Prelude.{IsTrue}
use Rattle.jv_pool.specs.Inside.Known.{KnownBelow, AreTextsBelow}
use Rattle.jv_pool.proofs.known.all_known.Given as goal

abbrev pub invariant-loop-index : goal.invariant-loop-index
invariant-loop-index l = KnownBelow l.table l.index l.facts.items l.places.items × (IsTrue l.are_texts → AreTextsBelow l.table l.index)
