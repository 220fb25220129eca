use Rattle.std.proofs.Common.{arith}
use Rattle.std.proofs.lemmas.Grind.{common_steps}
use Rattle.jv_text.proofs.field.known_element.Goals as goal

pub unreachable-requires-in_default : goal.unreachable-requires-in_default
unreachable-requires-in_default c = grind (arith, common_steps)

pub returns-in-76 : goal.returns-in-76
returns-in-76 c = grind (arith, common_steps)
