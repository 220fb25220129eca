use Rattle.std.proofs.Common.{◌∙◌, sym}
use Rattle.jv_text.specs.Seen.{seen_field_type}
use Rattle.jv_link.proofs.Operands.{no_type}
use Rattle.jv_links.proofs.Answered.{within_array, within_none}
use Rattle.jv_links.proofs.referred.class_within.Goals as goal

pub returns-in-Ok : goal.returns-in-Ok
returns-in-Ok c =
    c.element_class.ensures
    ∙ within_array c.args.text.now (seen_field_type c.in-Ok.array) (sym c.is_array_name.ensures ∙ c.if-not-is_array_name.false)
    ((c.types_agree.ensures.field c.args.text.now (seen_field_type c.in-Ok.array)).0 c.in-Ok.ensures.ok)

pub returns-in-Err : goal.returns-in-Err
returns-in-Err c =
    within_none c.args.text.now (sym c.is_array_name.ensures ∙ c.if-not-is_array_name.false) (no_type c.types_agree.ensures c.args.text.now c.in-Err.ensures.bad)
