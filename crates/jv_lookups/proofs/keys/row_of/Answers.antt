use Rattle.jv_lookups.proofs.KeyRows.{row_tells}
use Rattle.jv_lookups.proofs.keys.row_of.Goals as goal

pub returns : goal.returns
returns c =
    row_tells c.args.keys.now c.args.wanted.now.method.now c.args.wanted.now.name.now c.args.wanted.now.descriptor.now c.member_key.result c.row.result c.requires.name
    c.requires.descriptor c.member_key.ensures c.row.ensures.width c.row.ensures.marks
