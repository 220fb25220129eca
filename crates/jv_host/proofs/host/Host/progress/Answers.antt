use Rattle.std.proofs.Common.{arith}
use Rattle.jv_host.proofs.host.Host.progress.Goals as goal

pub returns-clause-running : goal.returns-clause-running
returns-clause-running g c =
    let some = c.loop-id.invariant in
    let most = c.loop-id.auto.id-end in
    let count = c.count-id-end.ensures in
    omega (arith, some, most, count)
