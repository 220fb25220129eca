use Rattle.std.proofs.Common.{◌≡◌, ◌+◌, ◌*◌, length}
use Rattle.jv_lookups.specs.Inside.Keys.{AreMarkedBelow, is_final_open, is_open}
use Rattle.jv_lookups.proofs.keys.mark_classes.Given as goal

abbrev pub invariant-loop-number : goal.invariant-loop-number
invariant-loop-number l = record {
  width : l.marks.width ≡ 2 * length l.classes;
  finals : AreMarkedBelow is_final_open l.seed l.marks l.classes (λ n. n) l.number;
  opens : AreMarkedBelow is_open l.seed l.marks l.classes (λ n. length l.classes + n) l.number;
}
