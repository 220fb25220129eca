use Rattle.jv_text.proofs.Fields.{one_field}
use Rattle.jv_text.proofs.one_field.Goals as goal

pub returns : goal.returns
returns c = one_field
