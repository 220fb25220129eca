use Rattle.std.proofs.Common.{◌≡◌, ◌∙◌, length, get_or, ap, arith}
use Rattle.jv_verify_types.proofs.Protecting.{one_more_right, all_are_right}
use Rattle.jv_verify_types.proofs.guards.classes_are_right.Goals as goal

pub loop-number-preserved : goal.loop-number-preserved
loop-number-preserved c =
    let class = c.index-classes-number.result in
    one_more_right c.args.table.now c.loop-number.number class c.loop-number.invariant
    (c.index-classes-number.is ∙ ap (λ ls. get_or ls c.loop-number.number class) c.classes.ensures) c.class_is_right.ensures

pub returns : goal.returns
returns c =
    let all : length c.args.table.now ≡ c.loop-number.number = omega (arith, c.count-number-end.ensures, c.loop-number.auto.number-end, c.loop-number-test.false) in
    all_are_right c.args.table.now c.loop-number.number all c.loop-number.invariant
