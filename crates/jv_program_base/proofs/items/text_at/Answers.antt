use Rattle.std.proofs.Common.{arith}
use Rattle.std.proofs.lemmas.Grind.{elements}
use Rattle.jv_program_base.proofs.items.text_at.Goals as goal

pub returns : goal.returns
returns c = grind (arith, elements)
