use Rattle.jv_asm.proofs.Spelled.{items_are_code}
use Rattle.jv_asm.proofs.code.items_are_code.Goals as goal

pub returns : goal.returns
returns c = items_are_code
