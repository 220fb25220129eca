use Rattle.std.proofs.Common.{arith}
use Rattle.std.proofs.lemmas.Grind.{elements}
use Rattle.jv_verify.proofs.verified.Verified.verdict.Goals as goal

pub returns : goal.returns
returns c = grind (arith, elements)
