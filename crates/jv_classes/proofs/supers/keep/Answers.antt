use Rattle.jv_classes.proofs.Knowing.{one_more_known}
use Rattle.jv_classes.proofs.supers.keep.Goals as goal

pub returns-then-index-known : goal.returns-then-index-known
returns-then-index-known c = λ world pool are is. one_more_known world pool c.args.known.now c.args.index c.args.number c.if-index-known.true are is
