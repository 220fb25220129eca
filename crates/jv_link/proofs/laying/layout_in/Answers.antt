use Rattle.std.proofs.Common.{ℕ, ◌-◌, get_or, length, refl}
use Rattle.jv_link.proofs.Fields.{ups_on}
use Rattle.jv_link.proofs.laying.layout_in.Goals as goal

pub loop-step-preserved : goal.loop-step-preserved
loop-step-preserved c =
    let above = c.superclasses-numbers in
    let numbers = above.result.now in
    let number : ℕ = get_or numbers (length numbers - 1 - c.loop-step.step) 0 in
    ups_on c.args.table.now numbers c.loop-step.step number c.loop-step.layout c.add_class.new.layout c.loop-step-test.true refl above.ensures.numbers
    c.in_ok-add_class.ensures.bound c.in_ok-add_class.ensures.laid c.loop-step.invariant
