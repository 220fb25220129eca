use Rattle.std.proofs.Common.{refl}
use Rattle.jv_interp.proofs.Fed.{fed_stands, still_stands}
use Rattle.jv_interp.proofs.guest.Guest.feed.Goals as goal

pub returns-in-Ok-clause-fed : goal.returns-in-Ok-clause-fed
returns-in-Ok-clause-fed c = fed_stands c.feed_joins.ensures c.args.bytes.now c.args.self.now _ refl refl (c.in-Ok.ensures {u = tt}).items

pub returns-in-Err-clause-refused : goal.returns-in-Err-clause-refused
returns-in-Err-clause-refused c = still_stands c.args.self.now _ refl refl (c.in-Err.ensures {u = tt}).items
