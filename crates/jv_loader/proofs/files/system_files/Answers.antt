use Rattle.jv_loader.specs.Inside.Library.{bytes_of}
use Rattle.std.proofs.Common.{ap}
use Rattle.jv_loader.proofs.Hosting.{system_alone}
use Rattle.jv_loader.proofs.files.system_files.Goals as goal

pub invariant_of-result : goal.invariant_of-result
invariant_of-result c =
    system_alone (bytes_of c.in_ok-own.own.items) (bytes_of c.new.result.items) c.in_ok-lenders.lenders.items c.new-2.result.items c.system_holds.ensures
    c.in_ok-own.ensures (ap bytes_of c.new.ensures.items) c.in_ok-lenders.ensures c.new-2.ensures.items
