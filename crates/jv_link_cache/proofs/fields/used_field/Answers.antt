use Rattle.std.proofs.Common.{rules}
use Rattle.jv_link_cache.proofs.fields.used_field.Goals as goal

pub returns-in-Ok-clause-found : goal.returns-in-Ok-clause-found
returns-in-Ok-clause-found c = search rules
