use Rattle.jv_malformed.proofs.Passing.{HalvesPassed}
use Rattle.jv_malformed.proofs.structure.behind_interfaces.Given as goal

abbrev pub invariant-loop : goal.invariant-loop
invariant-loop l = HalvesPassed l.count l.counter l.rest l.bytes
