use Rattle.std.proofs.Common.{◌∙◌, length, sym, ap, arith}
use Rattle.jv_classes.proofs.RelationRows.{row_length, rows_length}
use Rattle.jv_classes.proofs.relation.Relation.has_only.Goals as goal

pub is_within-requires : goal.is_within-requires
is_within-requires c =
    let rows = c.self.inside.rows.items in
    let many = rows_length c.args.self.now rows c.self.view_is in
    let long = row_length rows c.args.from c.index.result.now c.self.invariant (omega (arith, many, c.requires.from)) c.index.ensures in
    ap length c.deref.ensures.value ∙ (long ∙ (many ∙ sym c.requires.marks))
