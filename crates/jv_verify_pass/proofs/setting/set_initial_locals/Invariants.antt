use Rattle.std.proofs.Common.{◌≡◌, ◌≤◌, ℕ, List, length, take}
use Rattle.jv_stackmap.specs.Frames.{expanded}
use Rattle.jv_verify_types.specs.Typed.{typed_all}
use Rattle.jv_verify_types.specs.Numbered.{with_locals}
use Rattle.jv_verify_pass.specs.Inside.Locals.{SetBehind}
use Rattle.jv_verify_pass.proofs.setting.set_initial_locals.Given as goal

abbrev pub invariant-loop-left : goal.invariant-loop-left
invariant-loop-left l =
    ((names : List (List ℕ)) → SetBehind (typed_all names l.frame.locals) (expanded (length l.fn.frame.locals) (typed_all names l.entries)) (typed_all names (take l.left l.entries)) l.at)
    × (l.frame ≡ with_locals l.frame.locals l.fn.frame) × (l.left ≤ length l.entries)

abbrev pub decreases-loop-left : goal.decreases-loop-left
decreases-loop-left l = l.left
