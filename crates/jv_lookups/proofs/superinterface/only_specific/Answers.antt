use Rattle.std.proofs.Common.{◌∙◌, sym, ap}
use Rattle.jv_meaning_world.specs.LookUps.{only}
use Rattle.jv_lookups.proofs.Collected.{none_of_several}
use Rattle.jv_lookups.proofs.superinterface.only_specific.Goals as goal

pub returns-in-Absent-clause-found : goal.returns-in-Absent-clause-found
returns-in-Absent-clause-found c = λ l at. sym (ap only (c.in-Absent.ensures.found l at))

pub returns-in-One-clause-found : goal.returns-in-One-clause-found
returns-in-One-clause-found c = λ l at. let d = c.in-One.ensures.found l at in d.1 ∙ sym (ap only d.2)

pub returns-in-Several-clause-found : goal.returns-in-Several-clause-found
returns-in-Several-clause-found c = λ l at. none_of_several _ (c.in-Several.ensures.found l at)
