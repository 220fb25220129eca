use Rattle.jv_loader.specs.Inside.Headers.{AllLend, headers_in}
use Rattle.std.proofs.Common.{take}
use Rattle.jv_loader.proofs.lending.fault_of_lenders.Given as goal

abbrev pub invariant-loop-header : goal.invariant-loop-header
invariant-loop-header l = AllLend l.list (headers_in (take l.header-index l.headers))
