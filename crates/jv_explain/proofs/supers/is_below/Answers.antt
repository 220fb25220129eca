use Rattle.std.proofs.Common.{◌||◌, Bool, sym, ap, ◌∙◌}
use Rattle.jv_meaning_world.specs.Above.{is_above}
use Rattle.jv_classes.proofs.Told.{other_name}
use Rattle.jv_explain.proofs.supers.is_below.Goals as goal

pub returns-else-of-class : goal.returns-else-of-class
returns-else-of-class c = λ l here s there.
    c.is_above.ensures s there l here
    ∙ ap (λ (b : Bool). b || is_above c.args.table.now l.class.name s.class)
    (sym (other_name c.args.table.now c.is_numbered.ensures c.args.of c.args.class s l there here c.if-of-class.false))
