use Rattle.std.proofs.Common.{rules}
use Rattle.jv_verify_flow.proofs.frame_flow.flag_flows.Goals as goal

pub returns-else-not-flag_this_uninit : goal.returns-else-not-flag_this_uninit
returns-else-not-flag_this_uninit c = search rules
