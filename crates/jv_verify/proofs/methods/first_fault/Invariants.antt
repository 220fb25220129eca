use Rattle.std.proofs.Common.{take}
use Rattle.jv_meaning_typing.specs.Judgement.{AreTyped}
use Rattle.jv_verify.proofs.methods.first_fault.Given as goal

abbrev pub invariant-loop-place : goal.invariant-loop-place
invariant-loop-place l = AreTyped l.class.types.world l.class.by (take l.place l.class.by.class.methods)
