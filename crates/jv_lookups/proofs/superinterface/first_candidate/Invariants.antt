use Rattle.jv_meaning_world.specs.Numbers.{HoldsAtNumber}
use Rattle.jv_lookups.specs.Inside.Members.{candidate_in}
use Rattle.jv_lookups.proofs.Found.{IsLeft}
use Rattle.jv_lookups.proofs.superinterface.first_candidate.Given as goal

abbrev pub invariant-loop-class : goal.invariant-loop-class
invariant-loop-class l = HoldsAtNumber l.table l.from (λ m. IsLeft l.table (candidate_in l.name l.descriptor m) l.searched l.class-index)
