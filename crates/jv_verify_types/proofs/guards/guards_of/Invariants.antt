use Rattle.std.proofs.Common.{◌≡◌, length}
use Rattle.jv_meaning_world.specs.Numbers.{HoldsAtNumber}
use Rattle.jv_verify_types.specs.Inside.Answered.{AreAnswers}
use Rattle.jv_verify_types.proofs.Guarding.{AreGuardsBelow}
use Rattle.jv_verify_types.proofs.guards.guards_of.Given as goal

abbrev pub invariant-loop-index : goal.invariant-loop-index
invariant-loop-index l = record {
  size : length l.marks.items ≡ l.index;
  below : HoldsAtNumber l.classes.world l.current (λ c. AreGuardsBelow l.index l.classes.world c l.constants.pool l.marks.items);
  answers : AreAnswers l.classes.world l.current l.constants.pool l.answers;
}
