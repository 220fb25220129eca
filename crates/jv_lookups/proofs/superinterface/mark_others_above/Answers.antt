use Rattle.std.proofs.Common.{length, ◌<◌, arith}
use Rattle.jv_lookups.proofs.MarkedAbove.{others_marked}
use Rattle.jv_lookups.proofs.superinterface.mark_others_above.Goals as goal

pub returns-clause-marked : goal.returns-clause-marked
returns-clause-marked c =
    let less : c.args.class < length c.mark_above.new.marks = omega (arith, c.mark_above.ensures.size, c.requires.above, c.requires.class) in
    others_marked c.args.table.now c.args.class c.args.above.now c.mark_above.new.marks c.is_numbered.ensures less c.mark_above.ensures.marked
