use Rattle.std.proofs.Common.{arith}
use Rattle.jv_code.proofs.Skipped.{read_at_front, size_read, size_is_some}
use Rattle.jv_code.proofs.skipping.read_size.Goals as goal

pub overflow_sub-result : goal.overflow_sub-result
overflow_sub-result c = omega (arith, (read_at_front c.args.at c.args.bytes.now _ _ (λ i. omega (arith, c.type_inv.bytes i)) c.in-Some.ensures).0)

pub returns-clause-some : goal.returns-clause-some
returns-clause-some c = λ some. size_read c.args.at c.args.bytes.now _ _ (λ i. omega (arith, c.type_inv.bytes i)) c.in-Some.ensures

pub returns-clause-none : goal.returns-clause-none
returns-clause-none c = λ none. absurd (size_is_some c.args.at c.args.bytes.now _ _ (λ i. omega (arith, c.type_inv.bytes i)) c.in-Some.ensures none)
