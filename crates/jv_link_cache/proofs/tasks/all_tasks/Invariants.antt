use Rattle.jv_link_cache.specs.Inside.Tasks.{AreTasks}
use Rattle.jv_link_cache.proofs.tasks.all_tasks.Given as goal

abbrev pub invariant-loop-number : goal.invariant-loop-number
invariant-loop-number l = AreTasks l.table l.number l.rows.items
