use Rattle.std.proofs.Common.{sym, subst}
use Rattle.jv_verify.specs.Inside.Numbered.{IsVerdictAt}
use Rattle.jv_verify.proofs.files.verdict_of.Goals as goal

pub returns-in_ok-check_methods-in-None : goal.returns-in_ok-check_methods-in-None
returns-in_ok-check_methods-in-None c =
    subst (λ w. IsVerdictAt c.args.classes.now.world c.args.class w c.verdict_on.result) (sym c.in-None.is)
    (λ l at. c.verdict_on.ensures c.args.classes.now.world l (c.in_ok-check_methods-in-None.ensures l at))
