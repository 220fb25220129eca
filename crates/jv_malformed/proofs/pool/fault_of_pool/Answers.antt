use Rattle.std.proofs.Common.{arith}
use Rattle.jv_malformed.proofs.Walking.{found_in_pool}
use Rattle.jv_malformed.proofs.pool.fault_of_pool.Goals as goal

pub returns-in_ok-found-in-Ok : goal.returns-in_ok-found-in-Ok
returns-in_ok-found-in-Ok c =
    found_in_pool c.args.bytes.now c.in-Ok._rest.now c.in-Ok.table c.in_ok-found-in-Ok.found (λ i. omega (arith, c.type_inv.bytes i)) c.in-Ok.ensures
    c.in_ok-found-in-Ok.ensures
