use Rattle.std.proofs.Common.{◌∙◌, length, sym, ap, arith}
use Rattle.jv_classes.proofs.RelationRows.{row_length, rows_length}
use Rattle.jv_classes.proofs.relation.Relation.mark_related.Goals as goal

pub join-requires : goal.join-requires
join-requires c =
    let rows = c.self.inside.rows.items in
    let many = rows_length c.args.self.now rows c.self.view_is in
    let long = row_length rows c.args.from c.index.result.now c.self.invariant (omega (arith, many, c.requires.from)) c.index.ensures in
    c.requires.marks ∙ sym (ap length c.deref.ensures.value ∙ (long ∙ many))
