use Rattle.std.proofs.Common.{◌∙◌, Some, refl, sym, ap}
use Rattle.std.specs.Option.{option_map}
use Rattle.jv_pool.specs.Seen.{seen}
use Rattle.jv_verify_types.specs.declared.texts.TextTypes.{TextTypes}
use Rattle.jv_verify_types.proofs.Finding.{name_found}
use Rattle.jv_verify_types.proofs.constants.named_in.Goals as goal

pub returns-in-Some-Class : goal.returns-in-Some-Class
returns-in-Some-Class c = λ names arguments kept.
    name_found c.args.index c.in-Some-Class.name c.args.texts.now c.kept_at.result.named kept refl
    (sym c.constant.ensures ∙ ap (option_map seen) (c.in-Some-Class.is ∙ ap (λ x. Some x) c.in-Some-Class.field-0-is))
    (ap (λ (e : TextTypes). e.named) c.kept_at.ensures)
