use Rattle.std.proofs.Common.{◌≡◌, ◌-◌}
use Rattle.jv_stackmap.specs.Inside.Steps.{chopped_in}
use Rattle.jv_stackmap.proofs.table.FrameTable.chop.Given as goal

abbrev pub invariant-loop : goal.invariant-loop
invariant-loop l = chopped_in (l.count - l.counter) l.self ≡ chopped_in l.count l.fn.self
