use Rattle.std.proofs.Common.{◌≡◌, length}
use Rattle.jv_verify_types.specs.Typed.{typed_all}
use Rattle.jv_verify_types.specs.Numbered.{with_stack}
use Rattle.jv_meaning_typing.specs.FrameChanges.{taken}
use Rattle.jv_verify_rules.proofs.stack.take.Given as goal

abbrev pub invariant-loop-item : goal.invariant-loop-item
invariant-loop-item l =
    (taken l.types.world (typed_all l.types.names l.left) (typed_all l.types.names l.frame.stack)
    ≡ taken l.types.world (typed_all l.types.names l.expected) (typed_all l.types.names l.fn.frame.stack))
    × (l.frame ≡ with_stack l.frame.stack l.fn.frame)

abbrev pub decreases-loop-item : goal.decreases-loop-item
decreases-loop-item l = length l.left
