use Rattle.std.proofs.Common.{ℕ, List}
use Rattle.std.specs.Prelude.{All}
use Rattle.jv_pool.specs.Constants.{Entry}
use Rattle.jv_interp_objects.specs.Inside.Numbering.{IsKnown}
use Rattle.jv_interp_objects.proofs.texts.unknown.Given as goal

abbrev pub invariant-loop : goal.invariant-loop
invariant-loop l = (texts : List (List ℕ)) (pool : List Entry) → All (IsKnown texts pool) l.entries.items
