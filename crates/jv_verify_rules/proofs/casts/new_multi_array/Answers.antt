use Rattle.std.proofs.Common.{rules}
use Rattle.jv_verify_rules.proofs.casts.new_multi_array.Goals as goal

pub returns-then-take_ints : goal.returns-then-take_ints
returns-then-take_ints c = search rules
