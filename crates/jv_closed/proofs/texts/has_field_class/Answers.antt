use Rattle.std.proofs.Common.{ap, sym, ◌∙◌}
use Rattle.jv_text.specs.Seen.{seen_field_type}
use Rattle.jv_meaning_library.specs.Closed.{type_names}
use Rattle.jv_closed.specs.There.{are_there}
use Rattle.jv_closed.proofs.There.{no_field}
use Rattle.jv_closed.proofs.texts.has_field_class.Goals as goal

pub returns-in-Ok : goal.returns-in-Ok
returns-in-Ok c =
    let is = (c.types_agree.ensures.field c.args.text.now (seen_field_type c.in-Ok.found)).0 c.in-Ok.ensures.ok in
    c.has_element.ensures ∙ ap (λ o. are_there c.args.table.now (type_names o)) (sym is)

pub returns-in-Err : goal.returns-in-Err
returns-in-Err c = ap (λ o. are_there c.args.table.now (type_names o)) (sym (no_field c.types_agree.ensures c.args.text.now c.in-Err.ensures.bad))
