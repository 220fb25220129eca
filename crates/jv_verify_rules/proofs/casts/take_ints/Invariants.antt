use Rattle.std.proofs.Common.{◌≡◌, replicate}
use Rattle.jv_stackmap.specs.declared.verification.VerificationTypeOf.TheVariants as types
use Rattle.jv_meaning_typing.specs.FrameChanges.{taken}
use Rattle.jv_verify_types.specs.Typed.{typed_all}
use Rattle.jv_verify_types.specs.Numbered.{with_stack}
use Rattle.jv_verify_rules.proofs.casts.take_ints.Given as goal

abbrev pub invariant-loop-left : goal.invariant-loop-left
invariant-loop-left l =
    (taken l.types.world (replicate l.left types.Int) (typed_all l.types.names l.frame.stack)
    ≡ taken l.types.world (replicate l.count types.Int) (typed_all l.types.names l.fn.frame.stack))
    × (l.frame ≡ with_stack l.frame.stack l.fn.frame)

abbrev pub decreases-loop-left : goal.decreases-loop-left
decreases-loop-left l = l.left
