use Rattle.jv_meaning_world.specs.Numbers.{HoldsAtNumber}
use Rattle.jv_lookups.specs.Inside.Members.{below_in}
use Rattle.jv_lookups.proofs.Found.{IsAnyLeft}
use Rattle.jv_lookups.proofs.superinterface.has_below.Given as goal

abbrev pub invariant-loop-other : goal.invariant-loop-other
invariant-loop-other l = HoldsAtNumber l.table l.from (λ m. HoldsAtNumber l.table l.class (λ by. IsAnyLeft l.table (below_in l.table l.name l.descriptor m by) l.searched l.other-index))
