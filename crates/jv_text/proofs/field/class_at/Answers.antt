use Rattle.std.proofs.Common.{sym, ◌∙◌}
use Rattle.jv_text.proofs.Names.{no_class}
use Rattle.jv_text.proofs.field.class_at.Goals as goal

pub returns-else-is_class_name-clause-none : goal.returns-else-is_class_name-clause-none
returns-else-is_class_name-clause-none c = no_class _ _ _ c.in-Some.ensures.found c.in-Some.ensures.first (sym c.is_class_name.ensures ∙ c.if-is_class_name.false)
