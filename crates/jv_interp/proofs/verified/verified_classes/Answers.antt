use Rattle.std.proofs.Common.{ℕ, sym, ap, ◌∙◌}
use Rattle.jv_interp.specs.VerifiedClasses.{accepted_by}
use Rattle.jv_interp.proofs.VerifiedTold.{verified_told}
use Rattle.jv_interp.proofs.verified.verified_classes.Goals as goal

pub returns : goal.returns
returns c = λ library files judged is world_is verdicts_are host_is.
    verified_told library files judged c.table.result.now c.deref.result.now _ is (world_is ∙ sym c.classes.ensures ∙ sym c.table.ensures)
    (c.deref.ensures.value ∙ c.in_ok-flags.ensures ∙ ap (λ (n : ℕ). accepted_by n c.args.verified.now.verdicts) host_is
    ∙ ap (accepted_by _) (sym verdicts_are)) c.told_with_above.ensures.numbered c.in_ok-all.ensures.told
