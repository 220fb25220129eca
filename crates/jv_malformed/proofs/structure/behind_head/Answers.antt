use Rattle.std.proofs.Common.{arith}
use Rattle.jv_malformed.proofs.Passing.{no_head, head_passed}
use Rattle.jv_malformed.proofs.structure.behind_head.Goals as goal

pub returns-in-Some : goal.returns-in-Some
returns-in-Some c =
    head_passed c.args.bytes.now c.in-Some.rest.now _ c.behind_interfaces.result (λ i. omega (arith, c.type_inv.bytes i)) c.in-Some.ensures
    c.behind_interfaces.ensures

pub returns-in-None : goal.returns-in-None
returns-in-None c = no_head c.args.bytes.now c.in-None.ensures
