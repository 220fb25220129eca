use Rattle.std.proofs.Common.{arith, length, ◌≡◌, ◌∙◌, sym, ap, ◌||◌, ◌&&◌, get_or, false}
use Rattle.std.proofs.lemmas.List.{with_items_is}
use Rattle.std.specs.Vec.{with_items}
use Rattle.jv_classes.specs.Inside.Steps.{rows_of}
use Rattle.jv_classes.proofs.RelationRows.{kept_step}
use Rattle.jv_classes.proofs.relation.join_rows.Goals as goal

pub loop-row-preserved : goal.loop-row-preserved
loop-row-preserved c =
    let row = get_or c.loop-row.rows c.loop-row.row-index c.row-item.result in
    let same = c.deref_mut.ensures.value ∙ ap (λ v. v.items) (sym c.row-item.is) in
    let long = c.join_row.ensures.size ∙ ap length c.deref_mut.ensures.value in
    let written : (with_items row c.join_row.new.row).items ≡ c.join_row.new.row = with_items_is row c.join_row.new.row (omega (arith, long, row.ok.0)) in
    kept_step c.loop-row.rows (rows_of c.args.rows.now) c.loop-row.row-index c.args.by c.args.other.now c.row-item.result (with_items row c.join_row.new.row)
    (omega (arith, c.loop-row-test.true, c.loop-row.auto.rows)) c.row-item.is c.loop-row.invariant.0
    (ap length written ∙ (c.join_row.ensures.size ∙ ap length same))
    (λ to. ap (λ r. get_or r to false) written ∙ (c.join_row.ensures.joined to ∙ ap (λ r. get_or r to false || (get_or r c.args.by false && get_or c.args.other.now to false)) same))
    c.loop-row.invariant.1 c.loop-row.invariant.2
