use Rattle.jv_classes.proofs.Told.{rows_below, direct_of}
use Rattle.jv_classes.proofs.Ways.{above_if}
use Rattle.jv_classes.specs.Inside.Rows.{numbers_of}
use Rattle.jv_classes.proofs.table.above_of.Goals as goal

pub related_to-requires : goal.related_to-requires
related_to-requires c = rows_below c.args.classes.now c.args.rows.now c.requires.rows

pub returns-clause-above : goal.returns-clause-above
returns-clause-above c =
    let world = c.args.classes.now in
    let direct = direct_of world c.requires.numbered c.in_ok-above.above (numbers_of c.args.rows.now) c.requires.rows c.in_ok-above.ensures.related in
    above_if world c.close.new.self c.in_ok-above.above c.requires.numbered direct c.in_ok-close.ensures.ok
