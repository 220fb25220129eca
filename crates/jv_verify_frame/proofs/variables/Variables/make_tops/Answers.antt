use Rattle.std.proofs.Common.{sym, subst, length}
use Rattle.jv_verify_frame.specs.Inside.Tops.{AreTops}
use Rattle.jv_verify_frame.proofs.KeptTops.{tops_at_first}
use Rattle.jv_verify_frame.proofs.variables.Variables.make_tops.Goals as goal

pub invariant_of-self : goal.invariant_of-self
invariant_of-self c = subst (AreTops 0) (sym c.make_tops_below.ensures) (tops_at_first (length c.self.inside.items))
