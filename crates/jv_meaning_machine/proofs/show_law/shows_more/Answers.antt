use Rattle.jv_meaning_machine.proofs.Shown.{shows_more}
use Rattle.jv_meaning_machine.proofs.show_law.shows_more.Goals as goal

pub returns : goal.returns
returns c = shows_more
