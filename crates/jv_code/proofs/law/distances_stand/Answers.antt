use Rattle.jv_code.proofs.Distances.{distances_stand}
use Rattle.jv_code.proofs.law.distances_stand.Goals as goal

pub returns : goal.returns
returns c = distances_stand
