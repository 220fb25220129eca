use Rattle.std.proofs.Common.{arith}
use Rattle.jv_interp_objects.proofs.Filled.{few_counted}
use Rattle.jv_interp_objects.proofs.text_blocks.pay_text.Goals as goal

pub overflow_add-count : goal.overflow_add-count
overflow_add-count g c =
    let fewer = few_counted c.args.text.now c.args.count c.requires.text c.requires.count in
    let few = c.requires.few in
    record { fits = omega (arith, fewer, few) }

pub text_blocks-requires-clause-some : goal.text_blocks-requires-clause-some
text_blocks-requires-clause-some g c =
    let fewer = few_counted c.args.text.now c.args.count c.requires.text c.requires.count in
    let few = c.requires.few in
    omega (arith, fewer, few)
