use Rattle.std.proofs.lemmas.Grind.{common_steps}
use Rattle.std.proofs.Common.{subst, sym, arith}
use Rattle.std.specs.Prelude.{IsTrue}
use Rattle.jv_asm.proofs.Mapped.{each_fits}
use Rattle.jv_asm.proofs.part.put_all.Goals as goal

pub put-requires : goal.put-requires
put-requires g c =
    subst (λ x. IsTrue (g.T.Part.fits (g.T.Part.view x))) (sym c.item-item.is)
    (each_fits g.T.Part.fits g.T.Part.view c.args.items.now c.loop-item.item-index c.item-item.result c.loop-item-test.true c.requires)

pub loop-item-preserved : goal.loop-item-preserved
loop-item-preserved g c = grind (arith, common_steps)

pub returns : goal.returns
returns g c = grind (arith, common_steps)
