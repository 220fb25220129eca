use Rattle.jv_interp_heap.proofs.Numbered.{system_numbers}
use Rattle.jv_interp_heap.proofs.numbers.system_has_numbers.Goals as goal

pub returns : goal.returns
returns c = system_numbers
