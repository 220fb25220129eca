use Rattle.std.proofs.Common.{◌≡◌, ◌++◌, length}
use Rattle.jv_verify_types.specs.Mapped.{types_of_entries}
use Rattle.jv_verify_pass.specs.Inside.Objects.{objects_downward}
use Rattle.jv_verify_pass.proofs.objects.objects_downward.Given as goal

abbrev pub invariant-loop-entry : goal.invariant-loop-entry
invariant-loop-entry l = objects_downward (types_of_entries l.types l.map.stack) ≡ l.objects.items ++ objects_downward (types_of_entries l.types l.entries)

abbrev pub decreases-loop-entry : goal.decreases-loop-entry
decreases-loop-entry l = length l.entries
