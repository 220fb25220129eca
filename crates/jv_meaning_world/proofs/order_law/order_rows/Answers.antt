use Rattle.jv_meaning_world.proofs.OrderWorked.{worked_order_rows}
use Rattle.jv_meaning_world.proofs.order_law.order_rows.Goals as goal

pub returns : goal.returns
returns c = worked_order_rows
