use Rattle.std.proofs.Common.{rules}
use Rattle.jv_verify_rules.proofs.field_access.take_for_store.Goals as goal

pub returns-in-Some-UninitializedThis : goal.returns-in-Some-UninitializedThis
returns-in-Some-UninitializedThis c = search rules
