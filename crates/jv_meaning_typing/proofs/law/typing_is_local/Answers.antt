use Rattle.jv_meaning_typing.proofs.Falling.{local_law}
use Rattle.jv_meaning_typing.proofs.law.typing_is_local.Goals as goal

pub returns : goal.returns
returns c = local_law
