use Rattle.std.proofs.Common.{◌≡◌, ◌∙◌, sym, ap, subst, false, arith}
use Rattle.std.specs.Prelude.{replicate}
use Rattle.jv_classes.specs.Ways.{IsSquare, empty}
use Rattle.jv_classes.specs.Inside.Steps.{rows_of}
use Rattle.jv_classes.proofs.RelationRows.{square_empty, empty_more}
use Rattle.jv_classes.proofs.relation.Relation.new.Goals as goal

pub loop-init : goal.loop-init
loop-init c = ap rows_of c.new-rows.ensures.items

pub loop-preserved : goal.loop-preserved
loop-preserved c =
    ap rows_of c.in_ok-push.ensures.items ∙ empty_more c.loop.rows.items c.loop.counter c.args.size c.in_ok-row.row c.loop.invariant (c.in_ok-row.ensures.items_if_clones_equal (λ y same. same))

pub invariant_of-result : goal.invariant_of-result
invariant_of-result c =
    let all : c.loop.counter ≡ c.args.size = omega (arith, c.loop-test.false, c.loop.auto.counter-end) in
    let made : rows_of c.loop.rows.items ≡ empty c.args.size = c.loop.invariant ∙ ap (λ n. replicate n (replicate c.args.size false)) all in
    subst IsSquare (sym made) (square_empty c.args.size)
