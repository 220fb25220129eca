use Rattle.jv_interp_objects.proofs.Spelled.{counted}
use Rattle.jv_interp_objects.proofs.units.count_units.Goals as goal

pub returns-clause-counts : goal.returns-clause-counts
returns-clause-counts c = counted c.args.text.now c.begun.result c.begun.ensures
