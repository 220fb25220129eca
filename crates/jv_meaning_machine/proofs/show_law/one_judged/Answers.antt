use Rattle.jv_meaning_machine.proofs.Shown.{one_judged}
use Rattle.jv_meaning_machine.proofs.show_law.one_judged.Goals as goal

pub returns : goal.returns
returns c = one_judged c.one_content.ensures c.one_judgement_of_file.ensures
