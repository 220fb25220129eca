use Rattle.jv_verify.proofs.Hosts.{stands_alone, standing_accepted}
use Rattle.jv_verify.proofs.verified.Verified.system_stands.Goals as goal

pub returns-clause-stands : goal.returns-clause-stands
returns-clause-stands c = λ contents are. stands_alone c.system_is_accepted.ensures contents c.args.self.now are

pub returns-clause-accepted : goal.returns-clause-accepted
returns-clause-accepted c = λ contents are.
    standing_accepted _ contents c.args.self.now are (stands_alone c.system_is_accepted.ensures contents c.args.self.now are)
