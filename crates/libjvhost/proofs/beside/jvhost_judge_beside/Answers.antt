use Rattle.libjvhost.specs.Handles.{host_of, library_of}
use Rattle.libjvhost.specs.Told.{budget_told, files_told}
use Rattle.libjvhost.proofs.Handed.{judges_on, over}
use Rattle.libjvhost.proofs.beside.jvhost_judge_beside.Goals as goal

pub returns-clause-judges : goal.returns-clause-judges
returns-clause-judges c = λ guest size.
    let done = c.perform-done.result in let on = c.hand_on in
    over (host_of c.args.host.now) (host_of c.perform-done.new.host) done.code on.result _ _ on.ensures.code (λ old after did. (
      did.0,
      judges_on (files_told (library_of c.args.host.now) c.args.guest.now) (budget_told c.args.guest.now) c.args.steps done on.result on.new.seen
          c.args.output.now on.new.output on.ensures.code on.ensures.seen on.ensures.output on.ensures.same did.1,
    )) c.perform-done.ensures
