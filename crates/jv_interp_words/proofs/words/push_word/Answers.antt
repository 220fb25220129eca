use Rattle.jv_interp_words.proofs.InUse.{in_use_pushed, in_use_below}
use Rattle.jv_interp_words.proofs.words.push_word.Goals as goal

pub returns-clause-used : goal.returns-clause-used
returns-clause-used c = in_use_pushed c.args.words.now c.args.top c.args.word c.requires

pub returns-clause-below : goal.returns-clause-below
returns-clause-below c = λ count h. in_use_below c.args.words.now c.args.top c.args.word count h
