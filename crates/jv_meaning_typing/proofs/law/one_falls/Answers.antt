use Rattle.jv_meaning_typing.proofs.Falling.{one_falls_law}
use Rattle.jv_meaning_typing.proofs.law.one_falls.Goals as goal

pub returns : goal.returns
returns c = one_falls_law c.stands_in_list.ensures c.starts_apart.ensures
