use Rattle.jv_meaning_typing.proofs.Resolved.{field_is_used}
use Rattle.jv_meaning_typing.proofs.linking_law.field_is_used.Goals as goal

pub returns : goal.returns
returns c = field_is_used c.above_by_ways.ensures c.above_is_transitive.ensures
