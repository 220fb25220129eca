use Rattle.std.proofs.Common.{arith}
use Rattle.std.proofs.lemmas.Grind.{common_steps}
use Rattle.jv_text.specs.Seen.{seen_field_type}
use Rattle.jv_text.proofs.Fields.{not_whole, left_over}
use Rattle.jv_text.proofs.field.field_type.Goals as goal

pub returns-else-is_empty-clause-bad : goal.returns-else-is_empty-clause-bad
returns-else-is_empty-clause-bad c = left_over c.args.text.now c.in-Some.rest.now (seen_field_type c.in-Some.t) c.in-Some.ensures.fits c.in-Some.ensures.found (grind arith)

pub returns-in_default-clause-bad : goal.returns-in_default-clause-bad
returns-in_default-clause-bad c = not_whole c.args.text.now c.in_default.ensures.none

pub returns-then-is_empty-clause-ok : goal.returns-then-is_empty-clause-ok
returns-then-is_empty-clause-ok c = grind (arith, common_steps)
