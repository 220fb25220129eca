use Rattle.jv_interp_instructions.proofs.ArraysLoaded.{can_load_reference, reference_loaded}
use Rattle.jv_interp_instructions.proofs.array_loads.execute_reference_array_load.Goals as goal

pub load-requires : goal.load-requires
load-requires g c = can_load_reference c.execution_keeps.ensures _ _ _ _ _ _ _ c.requires.2

pub returns-clause-done : goal.returns-clause-done
returns-clause-done g c k texts = reference_loaded c.execution_keeps.ensures _ k texts _ _ _ _ _ _ _ c.load.ensures.loads
