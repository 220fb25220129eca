use Rattle.std.proofs.Common.{length}
use Rattle.jv_link_handlers.proofs.pieces.+pieces_of.Given as goal

abbrev pub decreases-pieces_of : goal.decreases-pieces_of
decreases-pieces_of l = length l.placed.now
