use Rattle.std.proofs.Common.{subst}
use Rattle.jv_interp_heap.specs.ObjectsInBlocks.{Blocks}
use Rattle.jv_interp.specs.Beginning.{HasBegun}
use Rattle.jv_interp.proofs.guest.Guest.new.Goals as goal

pub returns-in-Ok-clause-begun : goal.returns-in-Ok-clause-begun
returns-in-Ok-clause-begun g c =
    subst (λ (before : Blocks). HasBegun c.args.judged c.args.main.now c.args.input.now c.args.budget before c.in-Ok.guest (g.S.Store.content c.begin_in_room.new.store))
    (c.in_ok-reserve.ensures {u = tt}).content (c.in-Ok.ensures {u = tt}).begun
