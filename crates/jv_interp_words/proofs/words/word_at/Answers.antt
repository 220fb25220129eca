use Rattle.std.proofs.Common.{sym}
use Rattle.jv_interp_words.proofs.InUse.{in_use_word}
use Rattle.jv_interp_words.proofs.words.word_at.Goals as goal

pub returns : goal.returns
returns c = λ top within. sym (in_use_word c.args.words.now c.args.at top within)
