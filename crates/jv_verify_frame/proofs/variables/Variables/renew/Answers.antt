use Rattle.std.proofs.Common.{sym, subst}
use Rattle.jv_verify_frame.specs.Inside.Tops.{AreTops}
use Rattle.jv_verify_frame.proofs.KeptTops.{tops_at_first}
use Rattle.jv_verify_frame.proofs.variables.Variables.renew.Goals as goal

pub invariant_of-self : goal.invariant_of-self
invariant_of-self c = subst (AreTops c.args.count) (sym c.in_err-renew.ensures.refused) tt

pub invariant_of-self-2 : goal.invariant_of-self-2
invariant_of-self-2 c = subst (AreTops 0) (sym c.in_ok-renew.ensures.ok) (tops_at_first c.args.count)
