use Rattle.jv_code.proofs.Distances.{distance_found}
use Rattle.jv_code.proofs.switches.first_distance.Goals as goal

pub returns-clause-some : goal.returns-clause-some
returns-clause-some c = (distance_found c.args.bytes.now _ _ c.in-Some.ensures).0
