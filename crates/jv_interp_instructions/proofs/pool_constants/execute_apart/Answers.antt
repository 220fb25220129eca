use Rattle.std.proofs.Common.{sym}
use Rattle.jv_interp_instructions.proofs.pool_constants.execute_apart.Goals as goal

pub returns-clause-done : goal.returns-clause-done
returns-clause-done g c = rw (sym c.execute_other_constant-result.ensures.stays.same) c.execute_other_constant-result.ensures.done

pub returns-clause-stays : goal.returns-clause-stays
returns-clause-stays g c = rw (sym c.execute_other_constant-result.ensures.stays.same) c.execute_other_constant-result.ensures.stays

pub returns-clause-unmoved : goal.returns-clause-unmoved
returns-clause-unmoved g c = rw (sym c.execute_other_constant-result.ensures.stays.same) c.execute_other_constant-result.ensures.unmoved

pub returns-clause-refused_at : goal.returns-clause-refused_at
returns-clause-refused_at g c = rw (sym c.execute_other_constant-result.ensures.stays.same) c.execute_other_constant-result.ensures.refused_at
