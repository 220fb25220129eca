use Rattle.std.proofs.Common.{sym, subst}
use Rattle.jv_verify_frame.specs.Inside.Tops.{AreTops}
use Rattle.jv_verify_frame.proofs.KeptTops.{tops_at_first}
use Rattle.jv_verify_frame.proofs.variables.Variables.tops.Goals as goal

pub invariant_of-result : goal.invariant_of-result
invariant_of-result c = subst (AreTops 0) (sym c.in_ok-items.ensures) (tops_at_first c.args.count)
