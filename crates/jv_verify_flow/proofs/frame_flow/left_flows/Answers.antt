use Rattle.std.proofs.Common.{sym, ap, ◌∙◌}
use Rattle.jv_meaning_world.specs.Flow.{flows}
use Rattle.jv_meaning_world.proofs.Order.{flows_is_reflexive}
use Rattle.jv_verify_types.specs.Typed.{typed}
use Rattle.jv_verify_types.specs.Mapped.{names_of_types, world_of_types}
use Rattle.jv_verify_types.specs.Numbered.{Item}
use Rattle.jv_verify_flow.proofs.frame_flow.left_flows.Goals as goal

pub returns-then-is_top : goal.returns-then-is_top
returns-then-is_top c = λ are.
    let names = names_of_types c.args.types.now in
    sym (ap (λ (t : Item). flows (world_of_types c.args.types.now) (typed names c.args.left) (typed names t)) (c.is_top.ensures c.if-is_top.true))

pub returns-then-are_alike : goal.returns-then-are_alike
returns-then-are_alike c = λ are.
    let names = names_of_types c.args.types.now in
    sym (ap (λ (t : Item). flows (world_of_types c.args.types.now) (typed names c.args.left) (typed names t)) (sym (c.are_alike.ensures c.if-are_alike.true))
    ∙ flows_is_reflexive (world_of_types c.args.types.now) (typed names c.args.left))

pub returns : goal.returns
returns c = λ are. rw (are.left_is, are.item_is) (c.local_flows.ensures are.local are.there)
