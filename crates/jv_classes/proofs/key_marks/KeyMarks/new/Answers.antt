use Rattle.std.proofs.Common.{◌<◌, ◌∙◌, ap, arith}
use Rattle.jv_classes.specs.Inside.Marked.{cells_of}
use Rattle.jv_classes.proofs.KeyRows.{wide_none, none_more}
use Rattle.jv_classes.proofs.key_marks.KeyMarks.new.Goals as goal

pub loop-init : goal.loop-init
loop-init c = ap cells_of c.new-rows.ensures.items

pub loop-preserved : goal.loop-preserved
loop-preserved c =
    ap cells_of c.in_ok-push.ensures.items ∙ none_more c.loop.rows.items c.loop.counter c.args.classes c.in_ok-row.row c.loop.invariant (c.in_ok-row.ensures.items_if_clones_equal (λ y same. same))

pub invariant_of-result : goal.invariant_of-result
invariant_of-result c =
    let some : 0 < c.loop.counter = omega (arith, c.loop-test.false, c.rows_for-end.ensures) in
    wide_none c.args.classes c.loop.counter (cells_of c.loop.rows.items) some c.loop.invariant
