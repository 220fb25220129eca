use Rattle.std.proofs.Common.{None}
use Rattle.jv_loader.specs.Inside.Library.{bytes_of}
use Rattle.jv_loader.proofs.Hosting.{lent_next}
use Rattle.jv_loader.proofs.host.lent_files.Goals as goal

pub loop-place-preserved : goal.loop-place-preserved
loop-place-preserved c =
    lent_next (bytes_of c.args.own.now) (bytes_of c.args.library.now) c.args.lenders.now c.loop-place.place None c.loop-place.files.items c.push.new.self.items
    c.file_of.result c.loop-place-test.true c.loop-place.invariant c.file_of.ensures c.in_ok-push.ensures.items
