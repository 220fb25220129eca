use Rattle.std.proofs.Common.{length}
use Rattle.jv_interp_objects.proofs.multiple.+nested_cells.Given as goal

abbrev pub decreases-nested_cells : goal.decreases-nested_cells
decreases-nested_cells l = length l.counts.now
