use Rattle.std.proofs.Common.{◌≡◌, false, length, take}
use Rattle.std.specs.List.{list_any}
use Rattle.jv_meaning_world.specs.Numbers.{classes_at}
use Rattle.jv_lookups.specs.Inside.Overridden.{breaks_final_by}
use Rattle.jv_lookups.proofs.finals.some_overrides_final.Given as goal

abbrev pub invariant-loop-place : goal.invariant-loop-place
invariant-loop-place l = record {
  none : list_any (breaks_final_by l.class (classes_at l.classes l.chain)) (take l.place l.class.class.methods) ≡ false;
  many : length l.marks ≡ length l.fn.marks;
  asked : length l.asked ≡ length l.fn.asked;
}
