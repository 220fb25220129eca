use Rattle.std.proofs.Common.{◌≡◌, drop, map}
use Rattle.jv_meaning_world.specs.Numbers.{HoldsAtNumber}
use Rattle.jv_explain.specs.Inside.Blamed.{blamed_among, blamed_in}
use Rattle.jv_explain.specs.Supers.{superinterface}
use Rattle.jv_explain.proofs.supers.first_blamed.Given as goal

-- what is blamed is among the superinterfaces that are left
abbrev pub invariant-loop-place : goal.invariant-loop-place
invariant-loop-place l = HoldsAtNumber l.table l.class (λ x.
    blamed_in l.table x l.why ≡ blamed_among l.table x l.why (map superinterface (drop l.place x.class.interfaces)))
