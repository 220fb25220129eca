use Rattle.std.proofs.Common.{subst}
use Rattle.jv_verify_frame.specs.Inside.Tops.{AreTops}
use Rattle.jv_verify_frame.proofs.KeptTops.{all_used}
use Rattle.jv_verify_frame.proofs.tops.least.Goals as goal

pub returns-else-used-count-clause-tops : goal.returns-else-used-count-clause-tops
returns-else-used-count-clause-tops c = λ items e h. subst (λ n. AreTops n items) e (all_used items)
