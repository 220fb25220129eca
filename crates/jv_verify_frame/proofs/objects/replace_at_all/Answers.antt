use Rattle.std.proofs.Common.{◌∙◌, take, refl, arith}
use Rattle.jv_verify_frame.proofs.Noting.{replaced_next, all_replaced, whole}
use Rattle.jv_verify_frame.proofs.objects.replace_at_all.Goals as goal

pub loop-k-init : goal.loop-k-init
loop-k-init c = (refl, λ p. refl)

pub loop-k-preserved : goal.loop-k-preserved
loop-k-preserved c = (
  c.replace_at.ensures.same ∙ c.loop-k.invariant.0,
  replaced_next c.args.object c.args.by c.args.items.now c.loop-k.items c.replace_at.new.items c.args.places.now c.loop-k.k _ _ c.loop-k-test.true refl
      c.replace_at.ensures.at c.replace_at.ensures.others c.loop-k.invariant.1,
)

pub returns-clause-all : goal.returns-clause-all
returns-clause-all c =
    all_replaced c.args.object c.args.by c.args.items.now c.loop-k.items c.args.places.now (take c.loop-k.k c.args.places.now)
    (whole c.args.places.now c.loop-k.k (omega (arith, c.loop-k-test.false))) c.requires c.loop-k.invariant.1
