use Rattle.std.proofs.Common.{subst}
use Rattle.jv_verify.specs.Files.{Verified, IsOfFiles}
use Rattle.jv_verify.proofs.Hosts.{standing_are_typed}
use Rattle.jv_verify.proofs.Placed.{accepted_are_typed}
use Rattle.jv_verify.proofs.verified.Verified.are_typed.Goals as goal

pub returns-clause-files : goal.returns-clause-files
returns-clause-files c = subst (λ (v : Verified). IsOfFiles v) c.self.view_is c.self.invariant

pub returns-clause-accepted : goal.returns-clause-accepted
returns-clause-accepted c = λ given contents are. accepted_are_typed given contents c.args.self.now are

pub returns-clause-host : goal.returns-clause-host
returns-clause-host c = standing_are_typed c.args.self.now
