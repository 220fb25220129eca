use Rattle.jv_meaning_machine.proofs.Shown.{shows_one_thing}
use Rattle.jv_meaning_machine.proofs.show_law.shows_one_thing.Goals as goal

pub returns : goal.returns
returns c = shows_one_thing c.one_judged.ensures
