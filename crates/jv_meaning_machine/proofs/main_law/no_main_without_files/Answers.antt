use Rattle.jv_meaning_machine.proofs.Mains.{no_main_without_files}
use Rattle.jv_meaning_machine.proofs.main_law.no_main_without_files.Goals as goal

pub returns : goal.returns
returns c = no_main_without_files
