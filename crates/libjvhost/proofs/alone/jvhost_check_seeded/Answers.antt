use Rattle.std.proofs.Common.{[], length, map, subst, sym, ◌∙◌}
use Rattle.jv_limits.specs.Bytes.{bytes_of}
use Rattle.libjvhost.specs.Inside.Jobs.{ChecksSo}
use Rattle.libjvhost.proofs.Handed.{checks_on}
use Rattle.libjvhost.proofs.alone.jvhost_check_seeded.Goals as goal

pub returns-clause-checks : goal.returns-clause-checks
returns-clause-checks c =
    let done = c.check-done.result in let on = c.hand_verdicts_on in
    checks_on [] (map bytes_of c.args.files.now) done on.result c.args.verdicts.now on.new.verdicts on.ensures.code on.ensures.verdicts
    on.ensures.same (subst (λ library. ChecksSo library (map bytes_of c.args.files.now) (length c.args.verdicts.now) done) c.in-Some-Ok.ensures' c.check-done.ensures.so)

pub returns-clause-whole : goal.returns-clause-whole
returns-clause-whole c = λ e. c.check-done.ensures.whole c.in-Some-Ok.ensures' (sym c.hand_verdicts_on.ensures.code ∙ e)
