use Rattle.std.proofs.Common.{◌∙◌, ◌<◌, length, get_or, [], sym, subst}
use Rattle.std.specs.List.{All}
use Rattle.std.proofs.lemmas.List.{length-map}
use Rattle.jv_classes.specs.Ways.{IsBelowSize}
use Rattle.jv_classes.specs.Inside.Rows.{row_of, numbers_of}
use Rattle.jv_classes.proofs.Rows.{row_there}
use Rattle.jv_classes.proofs.table.related_to.Goals as goal

pub relate_each-requires-clause-to : goal.relate_each-requires-clause-to
relate_each-requires-clause-to c =
    let rows = c.args.rows.now in
    let within = subst (λ n. c.loop-from.from < n) (sym (length-map rows row_of)) c.loop-from-test.true in
    let there = row_there rows c.loop-from.from c.index-rows-from.result c.loop-from-test.true c.index-rows-from.is ∙ sym c.deref.ensures.value in
    subst (λ xs. All (IsBelowSize (length c.loop-from.relation)) xs) there
    (subst (λ n. All (IsBelowSize n) (get_or (numbers_of rows) c.loop-from.from [])) (sym c.loop-from.invariant.0) (c.requires c.loop-from.from [] within))
