use Rattle.std.proofs.Common.{[], inr, length, subst}
use Rattle.libjvhost.specs.Told.{budget_told, files_told}
use Rattle.libjvhost.specs.Inside.Jobs.{JudgesSo}
use Rattle.libjvhost.proofs.Handed.{judges_on}
use Rattle.libjvhost.proofs.alone.jvhost_judge_seeded.Goals as goal

pub returns-clause-judges : goal.returns-clause-judges
returns-clause-judges c = λ guest size.
    let done = c.judge-done.result in let on = c.hand_on in
    inr (judges_on (files_told [] c.args.guest.now) (budget_told c.args.guest.now) c.args.steps done on.result on.new.seen c.args.output.now
    on.new.output on.ensures.code on.ensures.seen on.ensures.output on.ensures.same
    (subst (λ library. JudgesSo (files_told library c.args.guest.now) (budget_told c.args.guest.now) c.args.steps (length c.args.output.now) done) c.in-Some-Ok.ensures' c.judge-done.ensures))
