use Rattle.jv_meaning_world.proofs.Libraries.{no_library_is_one}
use Rattle.jv_meaning_world.proofs.library_law.no_library_is_one.Goals as goal

pub returns : goal.returns
returns c = no_library_is_one
