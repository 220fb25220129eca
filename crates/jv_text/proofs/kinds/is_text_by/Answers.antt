use Rattle.std.proofs.Common.{refl}
use Rattle.jv_text.proofs.Marked.{single_text}
use Rattle.jv_text.proofs.kinds.is_text_by.Goals as goal

pub returns-then-marks-eq0 : goal.returns-then-marks-eq0
returns-then-marks-eq0 c = (λ on. single_text c.args.bytes.now c.args.marks c.requires on, λ _. rw c.if-marks-eq0.true refl)
