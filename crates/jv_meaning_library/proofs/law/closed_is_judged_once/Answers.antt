use Rattle.jv_meaning_library.proofs.Given.{closed_is_judged_once}
use Rattle.jv_meaning_library.proofs.law.closed_is_judged_once.Goals as goal

pub returns : goal.returns
returns c = closed_is_judged_once
