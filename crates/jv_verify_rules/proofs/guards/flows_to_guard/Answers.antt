use Rattle.std.proofs.Common.{rules}
use Rattle.jv_verify_rules.proofs.guards.flows_to_guard.Goals as goal

pub returns-in-Some : goal.returns-in-Some
returns-in-Some c = search rules
