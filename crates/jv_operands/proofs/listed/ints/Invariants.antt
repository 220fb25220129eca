use Rattle.std.proofs.Common.{◌≡◌}
use Rattle.std.specs.Prelude.{map, replicate}
use Rattle.jv_stackmap.specs.declared.verification.VerificationTypeOf.TheVariants as types
use Rattle.jv_operands.specs.Seen.{seen_want}
use Rattle.jv_operands.specs.Wants.{of_type}
use Rattle.jv_operands.proofs.listed.ints.Given as goal

abbrev pub invariant-loop : goal.invariant-loop
invariant-loop l = map seen_want l.list.items ≡ replicate l.counter (of_type types.Int)
