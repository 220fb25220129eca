use Rattle.std.proofs.Common.{sym, ap, ◌∙◌}
use Rattle.jv_meaning_world.specs.FrameFlow.{item_flows}
use Rattle.jv_verify_types.specs.Typed.{typed}
use Rattle.jv_verify_types.specs.Numbered.{Item}
use Rattle.jv_verify_flow.proofs.Lists.{item_to_itself}
use Rattle.jv_verify_flow.proofs.frame_flow.item_flows.Goals as goal

pub returns-then-are_same : goal.returns-then-are_same
returns-then-are_same c =
    let names = c.args.names.now in
    sym (ap (λ (t : Item). item_flows names.world (typed names.names c.args.from) (typed names.names t)) (sym (c.are_same.ensures c.if-are_same.true))
    ∙ item_to_itself names.world (typed names.names c.args.from))

pub returns-then-is_left_unused : goal.returns-then-is_left_unused
returns-then-is_left_unused c =
    let names = c.args.names.now in
    sym (c.is_left_unused.ensures names.world names.names c.if-is_left_unused.true)
