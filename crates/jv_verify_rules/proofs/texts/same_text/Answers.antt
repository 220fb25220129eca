use Rattle.std.proofs.Common.{rules}
use Rattle.jv_verify_rules.proofs.texts.same_text.Goals as goal

pub returns-in-Some-first_of : goal.returns-in-Some-first_of
returns-in-Some-first_of c = search rules
