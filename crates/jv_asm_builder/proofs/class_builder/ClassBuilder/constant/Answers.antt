use Rattle.std.proofs.Common.{ap, subst}
use Rattle.jv_pool.specs.Seen.{seen}
use Rattle.jv_asm_builder.specs.Added.{IsGrownPool}
use Rattle.jv_asm_builder.specs.Built.{with_pool}
use Rattle.jv_asm_builder.proofs.Joined.{pool_grows}
use Rattle.jv_asm_builder.proofs.class_builder.ClassBuilder.constant.Goals as goal

pub returns-clause-grown : goal.returns-clause-grown
returns-clause-grown c = record {
  rest = ap (λ x. with_pool x c.constant.new.self) c.self.view_is;
  pool = subst (λ x. IsGrownPool x.constant_pool c.constant.new.self) c.self.view_is
      (pool_grows c.constant.result c.self.inside.pool (seen c.args.constant) c.constant.new.self c.constant.ensures.ok c.constant.ensures.refused);
}
