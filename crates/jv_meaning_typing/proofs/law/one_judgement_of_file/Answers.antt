use Rattle.jv_meaning_typing.proofs.OneVerdict.{one_judgement_of_file}
use Rattle.jv_meaning_typing.proofs.law.one_judgement_of_file.Goals as goal

pub returns : goal.returns
returns c = one_judgement_of_file c.one_list.ensures c.one_maps.ensures
