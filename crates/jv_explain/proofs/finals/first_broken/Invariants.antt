use Rattle.std.proofs.Common.{◌≡◌, drop}
use Rattle.jv_meaning_world.specs.Above.{superclasses}
use Rattle.jv_meaning_world.specs.Numbers.{HoldsAtNumber, classes_at}
use Rattle.jv_explain.specs.Finals.{broken_among}
use Rattle.jv_explain.proofs.finals.first_broken.Given as goal

-- it is of the superclasses that are left
abbrev pub invariant-loop-k : goal.invariant-loop-k
invariant-loop-k l = HoldsAtNumber l.table l.class (λ x.
    broken_among x (superclasses l.table x.class) ≡ broken_among x (classes_at l.table (drop l.k l.above)))
