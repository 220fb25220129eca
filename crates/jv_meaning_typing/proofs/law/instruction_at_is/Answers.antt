use Rattle.jv_meaning_typing.proofs.Starts.{instruction_at_is}
use Rattle.jv_meaning_typing.proofs.law.instruction_at_is.Goals as goal

pub returns : goal.returns
returns c = instruction_at_is c.stands_in_list.ensures
