use Rattle.std.proofs.Common.{◌≡◌, ◌-◌}
use Rattle.jv_stackmap.specs.Inside.Steps.{items_laid}
use Rattle.jv_stackmap.proofs.reading.lay_items.Given as goal

abbrev pub invariant-loop : goal.invariant-loop
invariant-loop l = items_laid l.pool (l.count - l.counter) l.table l.rest ≡ items_laid l.pool l.count l.fn.table l.bytes
