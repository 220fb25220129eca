use Rattle.std.proofs.Common.{◌≡◌, length}
use Rattle.jv_verify_types.specs.Typed.{typed_all}
use Rattle.jv_verify_types.specs.Numbered.{with_stack}
use Rattle.jv_verify_types.specs.Mapped.{names_of_types, types_of_entries}
use Rattle.jv_verify_pass.specs.Inside.Locals.{PushedSoFar}
use Rattle.jv_verify_pass.proofs.setting.push_items.Given as goal

abbrev pub invariant-loop-entry : goal.invariant-loop-entry
invariant-loop-entry l =
    PushedSoFar (typed_all (names_of_types l.types) l.frame.stack) (types_of_entries l.types l.entries) (types_of_entries l.types l.map.stack)
    × (l.frame ≡ with_stack l.frame.stack l.fn.frame)

abbrev pub decreases-loop-entry : goal.decreases-loop-entry
decreases-loop-entry l = length l.entries
