use Rattle.jv_sound.proofs.NoLibrary.{no_library_stands}
use Rattle.jv_sound.proofs.law.no_library_stands.Goals as goal

pub returns : goal.returns
returns c = no_library_stands
