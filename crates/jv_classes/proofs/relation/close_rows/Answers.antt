use Rattle.std.proofs.Common.{◌≡◌, ◌∙◌, ◌<◌, length, get_or, false, sym, ap, subst, refl, arith}
use Rattle.jv_classes.specs.Inside.Steps.{rows_of}
use Rattle.jv_classes.proofs.RelationRows.{kept_square, square_kept, row_there, long_rows, at_end}
use Rattle.jv_classes.proofs.RelationWays.{Closing, closing_start, closing_step, closing_end}
use Rattle.jv_classes.proofs.relation.close_rows.Goals as goal

pub loop-by-init : goal.loop-by-init
loop-by-init c = (refl, c.requires.other, kept_square c.args.rows.now c.requires.square, closing_start (rows_of c.args.rows.now))

pub copy_from_slice-requires : goal.copy_from_slice-requires
copy_from_slice-requires c =
    let within : c.loop-by.by < length c.loop-by.rows = omega (arith, c.loop-by-test.true, c.loop-by.invariant.0) in
    let long = c.loop-by.invariant.2 c.loop-by.by c.index-rows-by.result within in
    c.loop-by.invariant.1 ∙ sym (ap length c.deref.ensures.value ∙ long)

pub join_rows-requires-clause-square : goal.join_rows-requires-clause-square
join_rows-requires-clause-square c = λ k d h. c.loop-by.invariant.2 k d h ∙ sym (c.copy_from_slice.ensures.len ∙ c.loop-by.invariant.1)

pub loop-by-preserved : goal.loop-by-preserved
loop-by-preserved c =
    let other = c.copy_from_slice.ensures.len ∙ c.loop-by.invariant.1 in
    let within : c.loop-by.by < length c.loop-by.rows = omega (arith, c.loop-by-test.true, c.loop-by.invariant.0) in
    let copied = c.copy_from_slice.ensures.after ∙ c.deref.ensures.value ∙ ap (λ row. row.items) (sym c.index-rows-by.is) ∙
    sym (row_there c.loop-by.rows c.loop-by.by c.index-rows-by.result within c.index-rows-by.is) in (
      c.join_rows.ensures.size ∙ c.loop-by.invariant.0,
      other,
      λ k d h. c.join_rows.ensures.square k d h ∙ other,
      closing_step (rows_of c.args.rows.now) (rows_of c.loop-by.rows) (rows_of c.join_rows.new.rows) c.loop-by.by c.copy_from_slice.new.self c.loop-by.invariant.3
          (λ to. ap (λ row. get_or row to false) copied) c.join_rows.ensures.joined,
    )

pub returns-clause-square : goal.returns-clause-square
returns-clause-square c = square_kept c.loop-by.rows (long_rows c.loop-by.rows (length c.args.rows.now) c.loop-by.invariant.0 c.loop-by.invariant.2)

pub returns-clause-reached : goal.returns-clause-reached
returns-clause-reached c =
    let all : c.loop-by.by ≡ length (rows_of c.args.rows.now) = at_end c.args.rows.now c.loop-by.by c.loop-by-test.false c.loop-by.auto.by-end in
    closing_end (rows_of c.args.rows.now) (rows_of c.loop-by.rows) c.requires.square (subst (Closing (rows_of c.args.rows.now) (rows_of c.loop-by.rows)) all c.loop-by.invariant.3)
