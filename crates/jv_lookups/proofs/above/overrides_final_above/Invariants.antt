use Rattle.std.proofs.Common.{◌≡◌, [], ◌∷◌, length, drop}
use Rattle.std.specs.Prelude.{slice_get}
use Rattle.jv_meaning_world.specs.Verdicts.{passes}
use Rattle.jv_meaning_world.specs.Numbers.{classes_at}
use Rattle.jv_lookups.specs.Inside.Keys.{AreAsked}
use Rattle.jv_lookups.specs.Inside.Overridden.{overrides_final_above}
use Rattle.jv_lookups.specs.Inside.Steps.{as_method}
use Rattle.jv_lookups.proofs.Marking.{IsWalked}
use Rattle.jv_lookups.proofs.above.overrides_final_above.Given as goal

abbrev pub invariant-loop-place : goal.invariant-loop-place
invariant-loop-place l = record {
  walked : IsWalked l.classes l.packages l.row l.marks (as_method l.wanted.method.now) (drop l.place-index l.chain)
      (passes (λ c. overrides_final_above (as_method l.wanted.method.now) (c ∷ []) (classes_at l.classes l.chain)) (slice_get l.classes l.of));
  many : length l.marks ≡ length l.fn.marks;
  asked : AreAsked l.packages l.row (length l.classes) l.asked (drop l.place-index l.chain);
}
