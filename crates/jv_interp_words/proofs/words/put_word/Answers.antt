use Rattle.jv_interp_words.proofs.InUse.{in_use_set}
use Rattle.jv_interp_words.proofs.words.put_word.Goals as goal

pub returns : goal.returns
returns c = λ top within. in_use_set c.args.words.now c.args.at c.args.word top within
