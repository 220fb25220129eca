use Rattle.jv_interp_words.proofs.Returned.{in_use_under}
use Rattle.jv_interp_words.proofs.calls.leave.Goals as goal

pub returns : goal.returns
returns c = λ above under place base_is. in_use_under c.args.words.now c.args.top c.args.base above under c.requires place base_is
