use Rattle.std.proofs.lemmas.Grind.{common_steps}
use Rattle.std.proofs.Common.{◌∙◌, ap, sym, arith}
use Rattle.jv_asm.proofs.Mapped.{one_fails}
use Rattle.jv_asm.proofs.part.all_fit.Goals as goal

pub returns-then-not-fits_fields : goal.returns-then-not-fits_fields
returns-then-not-fits_fields g c =
    one_fails g.T.Part.fits g.T.Part.view c.args.items.now c.loop-item.item-index c.item-item.result c.loop-item-test.true
    (ap (λ x. g.T.Part.fits (g.T.Part.view x)) (sym c.item-item.is) ∙ sym c.fits_fields.ensures ∙ c.if-not-fits_fields.true)

pub loop-item-preserved : goal.loop-item-preserved
loop-item-preserved g c = grind (arith, common_steps)

pub returns : goal.returns
returns g c = grind (arith, common_steps)
