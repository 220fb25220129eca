use Rattle.jv_verify_frame.proofs.KeptTops.{set_used}
use Rattle.jv_verify_frame.proofs.Noting.{item_set, keeps_all}
use Rattle.jv_verify_frame.proofs.locals.put.Goals as goal

pub returns-then-place-locals-clause-tops : goal.returns-then-place-locals-clause-tops
returns-then-place-locals-clause-tops c = λ used lt h. set_used used c.args.locals.now c.args.place c.args.item lt h

pub returns-then-place-locals-clause-objects : goal.returns-then-place-locals-clause-objects
returns-then-place-locals-clause-objects c = item_set c.args.locals.now c.args.locals.now c.args.place c.args.item (λ k object e. e)

pub returns-else-place-locals-clause-objects : goal.returns-else-place-locals-clause-objects
returns-else-place-locals-clause-objects c = keeps_all c.args.place c.args.item c.args.locals.now
