use Rattle.jv_interp_control.specs.Inside.Walking.{OnTheWay}
use Rattle.jv_interp_control.proofs.throwing.walk.Given as goal

abbrev pub invariant-loop-passed : goal.invariant-loop-passed
invariant-loop-passed g l =
    OnTheWay l.classes.world l.records l.fn.thrown l.fn.held (g.S.Store.content l.fn.store) (g.S.Store.room_left l.fn.store) l.passed l.now l.held
    (g.S.Store.content l.store) (g.S.Store.room_left l.store)
