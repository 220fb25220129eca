use Rattle.std.proofs.lemmas.Grind.{common_steps}
use Rattle.std.proofs.Common.{◌∙◌, ap, sym, arith}
use Rattle.jv_class_structure.specs.Structure.{method_fits}
use Rattle.jv_asm.proofs.Mapped.{one_fails}
use Rattle.jv_asm.proofs.member.all_methods_fit.Goals as goal

pub returns-then-not-fits_fields : goal.returns-then-not-fits_fields
returns-then-not-fits_fields g c =
    one_fails method_fits g.M.Method.method c.args.methods.now c.loop-method.method-index c.method-item.result c.loop-method-test.true
    (ap (λ x. method_fits (g.M.Method.method x)) (sym c.method-item.is) ∙ sym c.fits_fields.ensures ∙ c.if-not-fits_fields.true)

pub loop-method-preserved : goal.loop-method-preserved
loop-method-preserved g c = grind (arith, common_steps)

pub returns : goal.returns
returns g c = grind (arith, common_steps)
