use Rattle.std.proofs.lemmas.Grind.{common_steps}
use Rattle.std.proofs.Common.{arith}
use Rattle.std.specs.Prelude.{map}
use Rattle.jv_asm.proofs.Sizes.{all_true}
use Rattle.jv_asm.proofs.code.put_pairs.Goals as goal

pub put_all-requires : goal.put_all-requires
put_all-requires c = all_true (map (λ x. x) c.args.pairs.now)

pub returns : goal.returns
returns c = grind (arith, common_steps)
