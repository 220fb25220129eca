use Rattle.jv_interp_objects.proofs.ElementNumbers.{of_classes}
use Rattle.jv_interp_objects.proofs.types.element_is.Goals as goal

pub returns : goal.returns
returns c = λ a b from to.
    of_classes c.args.table.now a b c.args.from c.args.to c.is_at_or_below.result c.if-from-lt-FIRST_CLASS.false c.if-to-lt-FIRST_CLASS.false from to
    c.is_at_or_below.ensures
