use Rattle.jv_classes.proofs.Chains.{superclass_if}
use Rattle.jv_classes.proofs.table.superclasses_of.Goals as goal

pub returns-clause-superclasses : goal.returns-clause-superclasses
returns-clause-superclasses c =
    superclass_if c.short_ways.ensures c.args.classes.now c.close.new.self c.in_ok-superclasses.superclasses c.requires.numbered
    c.in_ok-superclasses.ensures.size c.is_square.ensures c.in_ok-superclasses.ensures.related c.in_ok-close.ensures.ok
