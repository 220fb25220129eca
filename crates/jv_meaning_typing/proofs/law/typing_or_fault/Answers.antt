use Rattle.jv_meaning_typing.proofs.OneFault.{typing_or_fault}
use Rattle.jv_meaning_typing.proofs.law.typing_or_fault.Goals as goal

pub returns : goal.returns
returns c = typing_or_fault c.one_list.ensures c.one_maps.ensures
