use Rattle.std.proofs.lemmas.Grind.{common_steps}
use Rattle.std.proofs.Common.{arith}
use Rattle.jv_program_base.proofs.file.read_past_limit.Goals as goal

pub returns-then-room-eq0-clause-front : goal.returns-then-room-eq0-clause-front
returns-then-room-eq0-clause-front g c = grind (arith, common_steps)
