use Rattle.jv_meaning_typing.proofs.Falling.{grows_law}
use Rattle.jv_meaning_typing.proofs.law.typing_grows.Goals as goal

pub returns : goal.returns
returns c = grows_law c.stands_in_list.ensures c.starts_apart.ensures
