use Rattle.jv_meaning_machine.proofs.Fed.{feed_joins}
use Rattle.jv_meaning_machine.proofs.feed_law.feed_joins.Goals as goal

pub returns : goal.returns
returns c = feed_joins
