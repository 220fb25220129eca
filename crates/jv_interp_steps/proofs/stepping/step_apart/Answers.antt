use Rattle.std.proofs.Common.{sym}
use Rattle.jv_interp_steps.proofs.stepping.step_apart.Goals as goal

pub returns-clause-stepped : goal.returns-clause-stepped
returns-clause-stepped g c = rw (sym c.step_decoded-result.ensures.same) c.step_decoded-result.ensures.stepped

pub returns-clause-refused_at : goal.returns-clause-refused_at
returns-clause-refused_at g c = rw (sym c.step_decoded-result.ensures.same) c.step_decoded-result.ensures.refused_at
