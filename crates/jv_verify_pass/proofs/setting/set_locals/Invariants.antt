use Rattle.std.proofs.Common.{◌≡◌, length, reverse}
use Rattle.jv_stackmap.specs.Frames.{expanded}
use Rattle.jv_verify_types.specs.Typed.{typed_all}
use Rattle.jv_verify_types.specs.Numbered.{with_locals}
use Rattle.jv_verify_types.specs.Mapped.{names_of_types, types_of_entries}
use Rattle.jv_verify_pass.specs.Inside.Locals.{SetBehind}
use Rattle.jv_verify_pass.proofs.setting.set_locals.Given as goal

abbrev pub invariant-loop-entry : goal.invariant-loop-entry
invariant-loop-entry l =
    SetBehind (typed_all (names_of_types l.types) l.frame.locals)
    (expanded (length l.fn.frame.locals) (reverse (types_of_entries l.types l.map.locals))) (reverse (types_of_entries l.types l.entries)) l.at
    × (l.frame ≡ with_locals l.frame.locals l.fn.frame)

abbrev pub decreases-loop-entry : goal.decreases-loop-entry
decreases-loop-entry l = length l.entries
