use Rattle.std.proofs.Common.{◌≡◌, ◌+◌, nat_eq, length}
use Rattle.jv_verify_types.specs.Numbered.{stack_words}
use Rattle.jv_verify_rules.proofs.methods.counts_arguments.Given as goal

abbrev pub invariant-loop-argument : goal.invariant-loop-argument
invariant-loop-argument l = nat_eq l.rest (stack_words l.left + 1) ≡ nat_eq l.count (stack_words l.arguments + 1)

abbrev pub decreases-loop-argument : goal.decreases-loop-argument
decreases-loop-argument l = length l.left
