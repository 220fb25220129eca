use Rattle.std.proofs.Common.{arith}
use Rattle.libjvhost.specs.Handles.{host_of, library_of}
use Rattle.libjvhost.specs.Told.{budget_told, files_told}
use Rattle.libjvhost.proofs.Few.{admitted_few}
use Rattle.libjvhost.proofs.hosts.jvhost_admit.Goals as goal

pub overflow_cast-id : goal.overflow_cast-id
overflow_cast-id c =
    let done = c.perform-done.result in
    let small =
    admitted_few (files_told (library_of c.args.host.now) c.args.guest.now) (budget_told c.args.guest.now) (host_of c.args.host.now)
    (host_of c.perform-done.new.host) done.code done.number c.perform-done.ensures c.if-done-eq-OK.true in
    omega (arith, small)
