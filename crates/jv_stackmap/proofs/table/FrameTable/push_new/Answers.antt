use Rattle.std.proofs.lemmas.Grind.{common_steps}
use Rattle.std.proofs.Common.{◌∷◌, ap, ◌∙◌, arith}
use Rattle.jv_stackmap.specs.Inside.Steps.{Built, with_pile}
use Rattle.jv_stackmap.proofs.Piles.{built_laid}
use Rattle.jv_stackmap.proofs.table.FrameTable.push_new.Goals as goal

pub returns : goal.returns
returns c =
    let i = c.self.inside in
    rw (c.in_ok-top.ensures.top, c.in_ok-top.ensures.pushed)
    (built_laid i.widths.now i.nodes i.frames.items i.base i.locals i.pile c.args.entry c.self.invariant ∙ ap (λ (b : Built). with_pile (c.args.entry ∷ b.pile) b) c.self.view_is)

pub invariant_of-self-2 : goal.invariant_of-self-2
invariant_of-self-2 c = grind (arith, common_steps)

pub invariant_of-self : goal.invariant_of-self
invariant_of-self c = rw (c.in_err-top.ensures {u = tt}).same c.self.invariant
