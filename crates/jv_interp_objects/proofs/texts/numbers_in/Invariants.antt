use Rattle.std.proofs.Common.{◌≡◌, length}
use Rattle.std.specs.Prelude.{All}
use Rattle.jv_interp_objects.specs.Inside.Numbering.{Numbers, IsKnown, AreBefore}
use Rattle.jv_interp_objects.proofs.texts.numbers_in.Given as goal

abbrev pub invariant-loop-index : goal.invariant-loop-index
invariant-loop-index l =
    Numbers l.fn.names l.names × All (IsKnown l.names l.pool) l.entries.items × AreBefore l.names l.pool l.numbers.items
    × (length l.numbers.items ≡ l.index)
