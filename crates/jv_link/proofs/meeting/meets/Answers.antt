use Rattle.std.proofs.Common.{◌∙◌, ap, sym}
use Rattle.jv_meaning_world.specs.Overriding.{declared_if}
use Rattle.jv_link.specs.Inside.Climbing.{met_in}
use Rattle.jv_link.proofs.meeting.meets.Goals as goal

pub returns-then-not-is_marked-clause-met : goal.returns-then-not-is_marked-clause-met
returns-then-not-is_marked-clause-met c = λ l at e at_e.
    ap (λ o. met_in c.args.table.now e l (declared_if l o))
    (c.requires.marks.none c.args.class (sym c.is_marked.ensures ∙ c.if-not-is_marked.true) l at e at_e)
