use Rattle.std.proofs.Common.{◌≡◌, ℕ, get_or, refl, sym, subst, ◌∙◌, arith}
use Rattle.std.specs.Prelude.{length}
use Rattle.jv_classes.proofs.Followed.{some_class}
use Rattle.jv_interp_control.specs.Inside.Tasks.{ArePassed}
use Rattle.jv_interp_control.proofs.NextTasks.{passed_one}
use Rattle.jv_interp_control.proofs.tasks.first_unready.Goals as goal

pub loop-place-init : goal.loop-place-init
loop-place-init c = λ world known are numbers. record { left = λ rest. refl }

pub loop-place-preserved : goal.loop-place-preserved
loop-place-preserved c = λ world known are numbers.
    let low = c.loop-place-test.true in
    let n = get_or c.args.order.now c.loop-place.place 0 in
    let l = some_class world n (numbers c.loop-place.place 0 low) in
    passed_one world known c.args.order.now c.args.start c.loop-place.place n l.0 (c.loop-place.invariant world known are numbers) low refl l.1
    (sym (c.is_ready.ensures world known l.0 are l.1) ∙ c.if-not-is_ready.false)

pub returns-clause-passes : goal.returns-clause-passes
returns-clause-passes c = λ world known are numbers.
    let end : c.loop-place.place ≡ length c.args.order.now =
    let a = c.loop-place-test.false in let b = c.loop-place.auto.place-end in let low = c.requires in omega (arith, a, b, low) in
    subst (λ (n : ℕ). ArePassed world known c.args.order.now c.args.start n) end (c.loop-place.invariant world known are numbers)
