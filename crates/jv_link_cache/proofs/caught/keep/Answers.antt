use Rattle.std.proofs.Common.{arith}
use Rattle.jv_classes.proofs.Knowing.{one_more_known}
use Rattle.jv_link_cache.proofs.caught.keep.Goals as goal

pub returns-then-index-len : goal.returns-then-index-len
returns-then-index-len c = λ world pool are is. one_more_known world pool c.args.known.now.items c.args.index c.args.number (omega arith) are is
