use Rattle.jv_meaning_machine.proofs.Shown.{ended_shows_the_same}
use Rattle.jv_meaning_machine.proofs.show_law.ended_shows_the_same.Goals as goal

pub returns : goal.returns
returns c = ended_shows_the_same
