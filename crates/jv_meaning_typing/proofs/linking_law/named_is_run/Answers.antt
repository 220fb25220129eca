use Rattle.jv_meaning_typing.proofs.Unchanged.{named_is_run}
use Rattle.jv_meaning_typing.proofs.linking_law.named_is_run.Goals as goal

pub returns : goal.returns
returns c = named_is_run
