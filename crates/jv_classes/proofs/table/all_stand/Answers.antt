use Rattle.std.proofs.Common.{◌∙◌}
use Rattle.jv_classes.proofs.Told.{row_of_class, class_at}
use Rattle.jv_classes.proofs.table.all_stand.Goals as goal

pub stands_itself-requires-clause-supers : goal.stands_itself-requires-clause-supers
stands_itself-requires-clause-supers c =
    c.deref.ensures.value ∙ row_of_class c.args.classes.now c.args.rows.now c.loop-from.from c.index-rows-from.result c.index-classes-from.result
    c.requires.rows c.loop-from-test.true c.index-rows-from.is c.index-classes-from.is

pub stands_itself-requires-clause-circular : goal.stands_itself-requires-clause-circular
stands_itself-requires-clause-circular c =
    let at = class_at c.args.classes.now c.loop-from.from c.index-classes-from.result c.loop-from-test.true c.index-classes-from.is in
    c.holds.ensures ∙ c.requires.above c.loop-from.from c.loop-from.from c.index-classes-from.result c.index-classes-from.result at at
