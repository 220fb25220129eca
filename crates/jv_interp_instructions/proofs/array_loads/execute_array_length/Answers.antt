use Rattle.jv_interp_instructions.proofs.ArraysLoaded.{can_measure, measured}
use Rattle.jv_interp_instructions.proofs.array_loads.execute_array_length.Goals as goal

pub array_length-requires : goal.array_length-requires
array_length-requires g c = can_measure c.execution_keeps.ensures _ _ _ _ _ _ _ c.requires.2

pub returns-clause-done : goal.returns-clause-done
returns-clause-done g c k texts = measured c.execution_keeps.ensures _ k texts _ _ _ _ _ _ _ c.array_length.ensures.measures
