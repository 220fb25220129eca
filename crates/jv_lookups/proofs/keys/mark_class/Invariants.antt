use Rattle.std.proofs.Common.{take}
use Rattle.jv_lookups.specs.Inside.Keys.{AreMarkedMore, is_final_open, is_open}
use Rattle.jv_lookups.proofs.keys.mark_class.Given as goal

abbrev pub invariant-loop-place : goal.invariant-loop-place
invariant-loop-place l = record {
  finals : AreMarkedMore is_final_open l.seed l.fn.marks l.finals (take l.place l.class.class.methods) l.marks;
  opens : AreMarkedMore is_open l.seed l.fn.marks l.opens (take l.place l.class.class.methods) l.marks;
}
