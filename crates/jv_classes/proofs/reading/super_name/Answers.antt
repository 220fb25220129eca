use Rattle.std.proofs.Common.{rules}
use Rattle.jv_classes.proofs.reading.super_name.Goals as goal

pub returns-in-Some : goal.returns-in-Some
returns-in-Some c = search rules
