use Rattle.jv_text.proofs.Texts.{one_text}
use Rattle.jv_text.proofs.one_text.Goals as goal

pub returns : goal.returns
returns c = one_text
