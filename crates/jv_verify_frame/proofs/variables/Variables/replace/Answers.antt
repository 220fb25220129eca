use Rattle.std.proofs.Common.{sym, subst}
use Rattle.jv_verify_frame.specs.Inside.Tops.{AreTops}
use Rattle.jv_verify_frame.proofs.KeptTops.{still_tops}
use Rattle.jv_verify_frame.proofs.variables.Variables.replace.Goals as goal

pub invariant_of-self : goal.invariant_of-self
invariant_of-self c =
    subst (AreTops c.self.inside.used) (sym c.replace.ensures) (still_tops c.args.object c.args.by c.self.inside.used c.self.inside.items c.self.invariant)
