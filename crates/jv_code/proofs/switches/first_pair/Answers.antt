use Rattle.jv_code.proofs.Pairs.{pair_found}
use Rattle.jv_code.proofs.switches.first_pair.Goals as goal

pub returns-clause-some : goal.returns-clause-some
returns-clause-some c = (pair_found c.args.bytes.now _ _ c.in-Some.ensures).0
