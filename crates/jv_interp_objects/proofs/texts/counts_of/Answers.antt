use Rattle.std.proofs.Common.{◌∙◌, ℕ, length, subst, ap, arith, length-append}
use Rattle.jv_interp_objects.specs.Texts.{HasText}
use Rattle.jv_interp_objects.proofs.InTexts.{no_counts, one_count}
use Rattle.jv_interp_objects.proofs.texts.counts_of.Goals as goal

pub loop-number-init : goal.loop-number-init
loop-number-init c = (
  no_counts c.args.names.now c.in_ok-counts.counts.items c.in_ok-counts.ensures.items,
  ap length c.in_ok-counts.ensures.items,
)

pub loop-number-preserved : goal.loop-number-preserved
loop-number-preserved c =
    let i = c.loop-number.invariant in (
      rw c.in_ok-push.ensures.items
          (one_count _ c.loop-number.counts.items _ i.0
          (λ text has. c.count_of.ensures text (subst (λ (n : ℕ). HasText c.args.names.now text n) i.1 has))),
      ap length c.in_ok-push.ensures.items ∙ length-append c.loop-number.counts.items _ ∙ (let many = i.1 in omega (arith, many)),
    )
