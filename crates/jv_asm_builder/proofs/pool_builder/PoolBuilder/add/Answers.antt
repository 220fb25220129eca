use Rattle.std.proofs.lemmas.Grind.{common_steps}
use Rattle.std.proofs.Common.{◌∙◌, ap, ◌++◌, ◌∷◌, [], arith}
use Rattle.std.specs.Prelude.{map}
use Rattle.std.proofs.lemmas.List.{map-append}
use Rattle.jv_pool.specs.Seen.{seen}
use Rattle.jv_asm_builder.proofs.Pooled.{pooled_more}
use Rattle.jv_asm_builder.proofs.pool_builder.PoolBuilder.add.Goals as goal

pub invariant_of-self-2 : goal.invariant_of-self-2
invariant_of-self-2 c =
    let items = c.self.inside.constants.items in
    pooled_more (map seen items) c.args.self.now (map seen c.push_reserved.new.self.items) (seen c.args.constant) c.key.result c.self.inside.indices c.insert.new.self
    c.self.inside.count c.args.count c.self.view_is c.self.invariant c.requires.new c.requires.count c.ranges.count.fits c.requires.fits c.key.ensures
    (c.in_ok-insert.ensures {u = tt}).updates
    (ap (map seen) (c.push_reserved.ensures.items ∙ ap (λ xs. xs ++ c.args.constant ∷ []) (c.in_ok-reserve.ensures {u = tt}).items) ∙ map-append seen items (c.args.constant ∷ []))

pub returns : goal.returns
returns c = grind (arith, common_steps)
