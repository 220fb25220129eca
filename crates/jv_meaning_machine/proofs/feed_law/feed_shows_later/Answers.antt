use Rattle.jv_meaning_machine.proofs.Fed.{feed_shows_later}
use Rattle.jv_meaning_machine.proofs.feed_law.feed_shows_later.Goals as goal

pub returns : goal.returns
returns c = feed_shows_later
