use Rattle.std.proofs.Common.{arith}
use Rattle.jv_classes.proofs.RelationRows.{row_length, rows_length}
use Rattle.jv_classes.proofs.relation.Relation.holds.Goals as goal

pub index-requires-2 : goal.index-requires-2
index-requires-2 c =
    let rows = c.self.inside.rows.items in
    let many = rows_length c.args.self.now rows c.self.view_is in
    let long = row_length rows c.args.from c.index.result.now c.self.invariant (omega (arith, many, c.requires.from)) c.index.ensures in
    omega (arith, many, long, c.requires.to, c.index.result.now.ok.0)
