use Rattle.std.proofs.Common.{subst}
use Rattle.jv_pool.specs.Facts.{IsMethodKnown}
use Rattle.jv_class.proofs.Facts.{no_floating_method}
use Rattle.jv_beyond.proofs.supported.is_no_floating_method.Goals as goal

pub returns-in-Some : goal.returns-in-Some
returns-in-Some c = λ text h. no_floating_method text c.in-Some.facts (subst (IsMethodKnown text) c.in-Some.is h)
