use Rattle.jv_meaning_machine.proofs.Shown.{shows_no_main}
use Rattle.jv_meaning_machine.proofs.show_law.shows_no_main.Goals as goal

pub returns : goal.returns
returns c = shows_no_main
