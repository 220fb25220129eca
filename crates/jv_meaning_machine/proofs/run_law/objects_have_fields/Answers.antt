use Rattle.jv_meaning_machine.proofs.KeptAlone.{objects_have_fields}
use Rattle.jv_meaning_machine.proofs.run_law.objects_have_fields.Goals as goal

pub returns : goal.returns
returns c = objects_have_fields
