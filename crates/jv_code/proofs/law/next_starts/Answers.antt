use Rattle.jv_code.proofs.StartLaws.{end_is_start}
use Rattle.jv_code.proofs.law.next_starts.Goals as goal

pub returns : goal.returns
returns c = end_is_start
