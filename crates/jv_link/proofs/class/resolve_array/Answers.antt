use Rattle.std.proofs.Common.{◌∙◌, ap, sym, Some}
use Rattle.jv_text.specs.Seen.{seen_field_type}
use Rattle.jv_meaning_typing.specs.ClassResolution.{resolve_array}
use Rattle.jv_link.proofs.Operands.{no_type}
use Rattle.jv_link.proofs.class.resolve_array.Goals as goal

pub returns-in-Ok-clause-found : goal.returns-in-Ok-clause-found
returns-in-Ok-clause-found c = λ cur at.
    c.resolve_element.ensures.found cur at
    ∙ ap (λ o. Some (resolve_array c.args.table.now cur o)) (sym ((c.types_agree.ensures.field c.args.text.now (seen_field_type c.in-Ok.array)).0 c.in-Ok.ensures.ok))

pub returns-in-Err-clause-found : goal.returns-in-Err-clause-found
returns-in-Err-clause-found c = λ cur at.
    ap (λ o. Some (resolve_array c.args.table.now cur o)) (no_type c.types_agree.ensures c.args.text.now c.in-Err.ensures.bad)
