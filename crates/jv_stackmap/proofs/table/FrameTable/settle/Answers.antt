use Rattle.std.proofs.Common.{ap, ◌∙◌}
use Rattle.jv_stackmap.specs.Inside.Steps.{settled}
use Rattle.jv_stackmap.proofs.Piles.{holds_settled, built_settled}
use Rattle.jv_stackmap.proofs.table.FrameTable.settle.Goals as goal

pub invariant_of-self : goal.invariant_of-self
invariant_of-self c =
    let i = c.self.inside in
    holds_settled i.widths.now i.nodes i.frames.items i.base i.locals i.pile c.self.invariant

pub returns : goal.returns
returns c =
    let i = c.self.inside in
    built_settled i.widths.now i.nodes i.frames.items i.base i.locals i.pile c.self.invariant ∙ ap settled c.self.view_is
