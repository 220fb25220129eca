use Rattle.std.proofs.Common.{◌≡◌, length}
use Rattle.jv_verify_types.specs.Typed.{typed_all}
use Rattle.jv_verify_types.specs.Numbered.{with_stack}
use Rattle.jv_meaning_typing.specs.FrameChanges.{taken}
use Rattle.jv_verify_rules.proofs.stack.take_arguments.Given as goal

abbrev pub invariant-loop-argument : goal.invariant-loop-argument
invariant-loop-argument l =
    (taken l.types.world (typed_all l.types.names l.left) (typed_all l.types.names l.frame.stack)
    ≡ taken l.types.world (typed_all l.types.names l.expected) (typed_all l.types.names l.fn.frame.stack))
    × (l.frame ≡ with_stack l.frame.stack l.fn.frame)

abbrev pub decreases-loop-argument : goal.decreases-loop-argument
decreases-loop-argument l = length l.left
