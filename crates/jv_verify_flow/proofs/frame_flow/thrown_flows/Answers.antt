use Rattle.std.proofs.Common.{rules}
use Rattle.jv_verify_flow.proofs.frame_flow.thrown_flows.Goals as goal

pub returns-then-thrown_stack_flows : goal.returns-then-thrown_stack_flows
returns-then-thrown_stack_flows c = search rules
