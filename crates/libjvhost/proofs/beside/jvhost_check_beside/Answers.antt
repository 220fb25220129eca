use Rattle.std.proofs.Common.{map}
use Rattle.jv_limits.specs.Bytes.{bytes_of}
use Rattle.libjvhost.specs.Handles.{host_of, library_of}
use Rattle.libjvhost.proofs.Handed.{checks_on, over}
use Rattle.libjvhost.proofs.beside.jvhost_check_beside.Goals as goal

pub returns-clause-checks : goal.returns-clause-checks
returns-clause-checks c =
    let done = c.perform-done.result in let on = c.hand_verdicts_on in
    over (host_of c.args.host.now) (host_of c.perform-done.new.host) done.code on.result _ _ on.ensures.code (λ old after did. (
      did.0,
      checks_on (library_of c.args.host.now) (map bytes_of c.args.files.now) done on.result c.args.verdicts.now on.new.verdicts on.ensures.code
          on.ensures.verdicts on.ensures.same did.1,
    )) c.perform-done.ensures
