use Rattle.jv_meaning_library.proofs.Worked.{worked_closed_rows}
use Rattle.jv_meaning_library.proofs.law.closed_rows.Goals as goal

pub returns : goal.returns
returns c = worked_closed_rows
