use Rattle.std.proofs.Common.{◌≡◌, ◌<◌, ◌∙◌, nat_le, false, arith}
use Rattle.std.proofs.lemmas.Grind.{common_steps}
use Rattle.jv_interp_objects.proofs.ElementNumbers.{below_first, from_first}
use Rattle.jv_interp_objects.proofs.types.is_above_arrays.Goals as goal

pub returns-then-element-ge-FIRST_CLASS : goal.returns-then-element-ge-FIRST_CLASS
returns-then-element-ge-FIRST_CLASS c = λ world guests numbers a b is more.
    from_first world guests numbers a b c.args.element more c.if-element-ge-FIRST_CLASS.true is

pub returns-else-element-ge-FIRST_CLASS : goal.returns-else-element-ge-FIRST_CLASS
returns-else-element-ge-FIRST_CLASS c = λ world guests numbers a b is more.
    let less : c.args.element < 8 = c.if-element-ge-FIRST_CLASS.false in
    let none : nat_le 8 c.args.element ≡ false = grind (arith, common_steps, less) in
    none ∙ below_first world a b c.args.element more less is
