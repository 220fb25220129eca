use Rattle.std.proofs.Common.{take}
use Rattle.jv_meaning_world.specs.Numbers.{classes_at}
use Rattle.jv_lookups.specs.Inside.Fronts.{AreNamed}
use Rattle.jv_lookups.proofs.finals.are_named.Given as goal

abbrev pub invariant-loop-place : goal.invariant-loop-place
invariant-loop-place l = AreNamed (classes_at l.classes (take l.place-index l.chain))
