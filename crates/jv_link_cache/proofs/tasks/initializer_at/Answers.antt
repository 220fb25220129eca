use Rattle.std.proofs.Common.{length}
use Rattle.jv_link_cache.specs.Inside.Tasks.{AreTasksAt}
use Rattle.jv_link_cache.proofs.Eachwise.{each_found, none_beyond_each}
use Rattle.jv_link_cache.proofs.tasks.initializer_at.Goals as goal

pub returns-then-class-rows : goal.returns-then-class-rows
returns-then-class-rows c = λ world are l at.
    (each_found (AreTasksAt world) (length world) c.args.rows.now c.args.class c.index-rows-class.result are c.if-class-rows.true l at).initializer

pub returns-else-class-rows : goal.returns-else-class-rows
returns-else-class-rows c = λ world are l at. absurd (none_beyond_each (AreTasksAt world) c.args.rows.now world c.args.class l are c.if-class-rows.false at)
