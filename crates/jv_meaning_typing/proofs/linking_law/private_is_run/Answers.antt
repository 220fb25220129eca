use Rattle.jv_meaning_typing.proofs.Unchanged.{private_is_run}
use Rattle.jv_meaning_typing.proofs.linking_law.private_is_run.Goals as goal

pub returns : goal.returns
returns c = private_is_run
