use Rattle.jv_meaning_library.proofs.Standing.{closed_stands_once}
use Rattle.jv_meaning_library.proofs.law.closed_stands_once.Goals as goal

pub returns : goal.returns
returns c = closed_stands_once
