use Rattle.jv_interp_words.proofs.InUse.{in_use_top}
use Rattle.jv_interp_words.proofs.words.top_word.Goals as goal

pub returns : goal.returns
returns c = in_use_top c.args.words.now c.args.top c.requires.some c.requires.within
