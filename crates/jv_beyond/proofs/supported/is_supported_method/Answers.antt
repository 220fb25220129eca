use Rattle.std.proofs.Common.{rules}
use Rattle.jv_beyond.proofs.supported.is_supported_method.Goals as goal

pub returns-else-is_clinit : goal.returns-else-is_clinit
returns-else-is_clinit c = search rules
