use Rattle.std.proofs.Common.{◌∙◌, sym, ap, rules}
use Rattle.jv_meaning_world.specs.Flow.{flows}
use Rattle.jv_stackmap.specs.Seen.{seen_type}
use Rattle.jv_assign.proofs.types.flows.Goals as goal

pub returns-in-Uninitialized : goal.returns-in-Uninitialized
returns-in-Uninitialized c = c.is_uninitialized.ensures c.args.table.now ∙ ap (λ to. flows c.args.table.now (seen_type c.args.from.now) (seen_type to)) (sym c.in-Uninitialized.is)

pub returns-in-Null-matches : goal.returns-in-Null-matches
returns-in-Null-matches c = search rules

pub returns-in_default : goal.returns-in_default
returns-in_default c = search rules
