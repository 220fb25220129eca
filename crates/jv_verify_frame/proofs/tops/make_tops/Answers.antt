use Rattle.std.proofs.Common.{◌≡◌, ◌-◌, ◌∙◌, suc, replicate, refl, ap, subst, arith}
use Rattle.std.proofs.lemmas.List.{length-set}
use Rattle.jv_stackmap.specs.declared.verification.VerificationTypeOf.TheVariants as types
use Rattle.jv_verify_frame.specs.Inside.Tops.{AreTops}
use Rattle.jv_verify_frame.proofs.KeptTops.{one_less, none_used}
use Rattle.jv_verify_frame.proofs.tops.make_tops.Goals as goal

pub loop-left-init : goal.loop-left-init
loop-left-init c = (
  refl,
  c.least-left.ensures.within,
  c.least-left.ensures.tops c.args.items.now refl c.requires,
)

pub loop-left-preserved : goal.loop-left-preserved
loop-left-preserved c =
    let left = c.loop-left.left in
    let items = c.loop-left.items in
    let many = length-set items (left - 1) types.Top in
    let one : left ≡ suc (left - 1) = omega (arith, c.loop-left-test.true) in (
      many ∙ c.loop-left.invariant.0,
      omega (arith, many, c.loop-left.invariant.1),
      one_less (left - 1) items (subst (λ n. AreTops n items) one c.loop-left.invariant.2),
    )

pub returns-clause-tops : goal.returns-clause-tops
returns-clause-tops c =
    let none : c.loop-left.left ≡ 0 = omega (arith, c.loop-left-test.false) in
    none_used c.loop-left.items (subst (λ n. AreTops n c.loop-left.items) none c.loop-left.invariant.2)
    ∙ ap (λ n. replicate n types.Top) c.loop-left.invariant.0
