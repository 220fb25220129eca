use Rattle.jv_meaning_world.proofs.OrderWorlds.{files_are_rooted}
use Rattle.jv_meaning_world.proofs.order_law.files_are_rooted.Goals as goal

pub returns : goal.returns
returns c = files_are_rooted
