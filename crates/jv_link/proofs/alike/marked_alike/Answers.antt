use Rattle.std.proofs.Common.{◌∙◌, ap, sym}
use Rattle.jv_meaning_world.specs.Overriding.{declared_if}
use Rattle.jv_link.proofs.alike.marked_alike.Goals as goal

pub returns-else-is_marked-clause-found : goal.returns-else-is_marked-clause-found
returns-else-is_marked-clause-found c = λ l at e at_e.
    sym (ap (declared_if l) (c.requires.marks.none c.args.class (sym c.is_marked.ensures ∙ c.if-is_marked.false) l at e at_e))
