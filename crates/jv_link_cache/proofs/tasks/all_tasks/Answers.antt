use Rattle.std.proofs.Common.{subst}
use Rattle.jv_meaning_world.specs.World.{Loaded}
use Rattle.jv_link_cache.specs.Inside.Tasks.{AreTasksOf, AreTasksAt}
use Rattle.jv_link_cache.proofs.Eachwise.{each_goes_on}
use Rattle.jv_link_cache.proofs.tasks.all_tasks.Goals as goal

pub loop-number-preserved : goal.loop-number-preserved
loop-number-preserved c =
    rw c.in_ok-push.ensures.items
    (each_goes_on (AreTasksAt c.args.table.now) c.loop-number.number c.loop-number.rows.items c.in_ok-tasks_of.field-0
    (λ l at. subst (λ (k : Loaded). AreTasksOf k c.in_ok-tasks_of.field-0) (c.class_at.ensures l at) c.in_ok-tasks_of.ensures)
    c.loop-number.invariant)
