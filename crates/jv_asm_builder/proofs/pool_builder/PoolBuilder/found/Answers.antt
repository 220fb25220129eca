use Rattle.std.proofs.Common.{◌∙◌, subst}
use Rattle.jv_pool.specs.Seen.{seen}
use Rattle.jv_asm_builder.specs.Inside.Pooled.{AreIndices}
use Rattle.jv_asm_builder.proofs.Pooled.{found_by}
use Rattle.jv_asm_builder.proofs.pool_builder.PoolBuilder.found.Goals as goal

pub returns : goal.returns
returns c =
    found_by c.args.self.now (seen c.args.constant) c.key.result c.self.inside.indices c.copied.result c.key.ensures
    (c.copied.ensures ∙ c.get.ensures.value) (subst (λ p. AreIndices p c.self.inside.indices) c.self.view_is c.self.invariant.indices)
