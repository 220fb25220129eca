use Rattle.std.proofs.Common.{◌≡◌, drop}
use Rattle.std.specs.List.{find}
use Rattle.jv_explain.specs.Finals.{breaks_itself, broken_in}
use Rattle.jv_explain.proofs.finals.broken_in.Given as goal

-- it is among the methods that are left
abbrev pub invariant-loop-place : goal.invariant-loop-place
invariant-loop-place l = broken_in l.own l.of ≡ find (breaks_itself l.own l.of) (drop l.place l.of.class.methods)
