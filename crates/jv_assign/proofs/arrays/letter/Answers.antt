use Rattle.std.proofs.Common.{rules}
use Rattle.jv_assign.proofs.arrays.letter.Goals as goal

pub returns-in-Int : goal.returns-in-Int
returns-in-Int c = search rules
