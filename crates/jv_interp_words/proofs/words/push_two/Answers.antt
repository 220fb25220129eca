use Rattle.jv_interp_words.proofs.InUse.{in_use_two}
use Rattle.jv_interp_words.proofs.words.push_two.Goals as goal

pub returns-clause-used : goal.returns-clause-used
returns-clause-used c = in_use_two c.args.words.now c.args.top c.args.low c.args.high c.requires
