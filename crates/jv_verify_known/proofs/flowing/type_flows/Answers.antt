use Rattle.std.proofs.Common.{sym, ap, ◌∙◌}
use Rattle.jv_meaning_world.specs.Flow.{flows}
use Rattle.jv_meaning_world.proofs.Order.{flows_is_reflexive}
use Rattle.jv_verify_types.specs.Typed.{typed}
use Rattle.jv_verify_types.specs.Mapped.{names_of_types, world_of_types}
use Rattle.jv_verify_types.specs.Numbered.{Item}
use Rattle.jv_verify_known.proofs.flowing.type_flows.Goals as goal

pub returns-then-is_same : goal.returns-then-is_same
returns-then-is_same c =
    let names = names_of_types c.args.types.now in
    sym (ap (λ (t : Item). flows (world_of_types c.args.types.now) (typed names c.args.from) (typed names t)) (sym (c.is_same.ensures c.if-is_same.true))
    ∙ flows_is_reflexive (world_of_types c.args.types.now) (typed names c.args.from))
