use Rattle.std.proofs.Common.{sym, subst}
use Rattle.jv_host.specs.Inside.Holding.{AreHeld}
use Rattle.jv_host.proofs.Holdings.{none_held}
use Rattle.jv_host.proofs.host.Host.new.Goals as goal

pub invariant_of-result : goal.invariant_of-result
invariant_of-result g c =
    subst (λ guests. AreHeld guests (g.S.Store.room_left c.empty.result) (g.S.Store.content c.empty.result)) (sym c.new-2.ensures.items)
    (none_held (g.S.Store.room_left c.empty.result) (g.S.Store.content c.empty.result) c.empty.ensures.room c.empty.ensures.content)
