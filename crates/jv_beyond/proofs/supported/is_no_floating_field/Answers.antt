use Rattle.std.proofs.Common.{subst}
use Rattle.jv_pool.specs.Facts.{IsFieldKnown}
use Rattle.jv_class.proofs.Facts.{no_floating_field}
use Rattle.jv_beyond.proofs.supported.is_no_floating_field.Goals as goal

pub returns-in-Some : goal.returns-in-Some
returns-in-Some c = λ text h. no_floating_field text c.in-Some.facts (subst (IsFieldKnown text) c.in-Some.is h)
