use Rattle.std.proofs.Common.{arith}
use Rattle.jv_link_handlers.proofs.InPieces.{place_of_none, place_of_last}
use Rattle.jv_link_handlers.proofs.pieces.place_at.Goals as goal

pub returns-then-count-eq0 : goal.returns-then-count-eq0
returns-then-count-eq0 c = λ rise. place_of_none _ _ (λ k lt. c.count_to-count.ensures.behind rise k (omega arith) lt)

pub returns-else-count-eq0 : goal.returns-else-count-eq0
returns-else-count-eq0 c =
    λ rise. place_of_last c.args.pieces.now c.args.offset _ c.count_to-count.result (omega arith) c.count_to-count.ensures.within
    (c.count_to-count.ensures.to rise _ (omega arith)) (c.count_to-count.ensures.behind rise)
