use Rattle.jv_verify_frame.proofs.KeptTops.{more_used}
use Rattle.jv_verify_frame.proofs.variables.Variables.store.Goals as goal

pub invariant_of-self : goal.invariant_of-self
invariant_of-self c =
    c.store.ensures.tops c.reaching-self-inside.result c.reaching-self-inside.ensures.behind
    (more_used c.self.inside.used c.reaching-self-inside.result c.self.inside.items c.reaching-self-inside.ensures.least c.self.invariant)
