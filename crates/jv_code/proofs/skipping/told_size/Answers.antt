use Rattle.std.proofs.Common.{arith}
use Rattle.jv_code.proofs.Skipped.{size_told_there}
use Rattle.jv_code.proofs.skipping.told_size.Goals as goal

pub returns : goal.returns
returns c = λ some at. size_told_there at _ _ c.args.bytes.now _ (λ i. omega (arith, c.type_inv.bytes i)) c.in-Some.ensures c.size_of-size.ensures some c.if-bytes-size.false
