use Rattle.std.proofs.Common.{◌≡◌, Err, ap, map, sym, subst, ◌∙◌}
use Rattle.jv_text.specs.Seen.{seen_field_type, seen_method_type}
use Rattle.jv_meaning_library.specs.Closed.{method_names}
use Rattle.jv_closed.specs.There.{are_there, types_are_there}
use Rattle.jv_closed.proofs.There.{method_is_there, no_method}
use Rattle.jv_closed.proofs.texts.has_method_classes.Goals as goal

pub returns-in-Ok : goal.returns-in-Ok
returns-in-Ok c =
    let is = (c.types_agree.ensures.method c.args.text.now (seen_method_type c.in-Ok.method)).0 c.in-Ok.ensures.ok in
    let parameters = subst (λ l. c.has_types-parameters.result ≡ types_are_there c.args.table.now (map seen_field_type l)) c.deref.ensures.value c.has_types-parameters.ensures in
    c.both.ensures
    ∙ method_is_there c.args.table.now c.args.text.now (seen_method_type c.in-Ok.method) c.has_types-parameters.result c.has_result-returned.result is
    parameters c.has_result-returned.ensures

pub returns-in-Err-BadDescriptor : goal.returns-in-Err-BadDescriptor
returns-in-Err-BadDescriptor c =
    ap (λ o. are_there c.args.table.now (method_names o))
    (sym (no_method c.types_agree.ensures c.args.text.now (c.in-Err-BadDescriptor.ensures.bad (ap Err c.in-Err-BadDescriptor.field-0-is))))
