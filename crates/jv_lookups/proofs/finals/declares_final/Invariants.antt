use Rattle.std.proofs.Common.{◌≡◌, false, take}
use Rattle.std.specs.List.{list_any}
use Rattle.jv_meaning_world.specs.Verdicts.{is_final_instance}
use Rattle.jv_lookups.proofs.finals.declares_final.Given as goal

abbrev pub invariant-loop-place : goal.invariant-loop-place
invariant-loop-place l = list_any is_final_instance (take l.place l.class.class.methods) ≡ false
