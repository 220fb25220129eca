use Rattle.std.proofs.lemmas.Grind.{elements}
use Rattle.std.proofs.Common.{arith}
use Rattle.jv_loader.proofs.classes.Classes.load_verdict.Goals as goal

pub returns : goal.returns
returns c = grind (arith, elements)
