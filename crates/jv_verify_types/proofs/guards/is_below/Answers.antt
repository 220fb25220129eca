use Rattle.std.proofs.Common.{rules}
use Rattle.jv_verify_types.proofs.guards.is_below.Goals as goal

pub returns-then-is_subclass : goal.returns-then-is_subclass
returns-then-is_subclass c = search rules
