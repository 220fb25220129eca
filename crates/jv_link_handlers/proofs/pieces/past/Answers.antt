use Rattle.std.proofs.Common.{arith}
use Rattle.jv_link_handlers.proofs.InPieces.{stands_more, stays_before}
use Rattle.jv_link_handlers.proofs.pieces.past.Goals as goal

pub returns-then-pieces-count-clause-stands : goal.returns-then-pieces-count-clause-stands
returns-then-pieces-count-clause-stands c = stands_more _ _ _ _ c.requires.rise c.requires.stands (omega arith) (omega arith)

pub returns-then-pieces-count-clause-before : goal.returns-then-pieces-count-clause-before
returns-then-pieces-count-clause-before c = λ x before. stays_before _ _ _ _ x c.requires.stands (omega arith) before
