use Rattle.jv_meaning_typing.proofs.OneVerdict.{one_judgement}
use Rattle.jv_meaning_typing.proofs.law.one_judgement.Goals as goal

pub returns : goal.returns
returns c = one_judgement c.one_list.ensures c.one_maps.ensures
