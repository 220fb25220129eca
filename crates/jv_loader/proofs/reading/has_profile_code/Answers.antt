use Rattle.std.proofs.Common.{rules}
use Rattle.jv_loader.proofs.reading.has_profile_code.Goals as goal

pub returns-in-Some : goal.returns-in-Some
returns-in-Some c = search rules
