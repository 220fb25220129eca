use Rattle.std.proofs.Common.{ap, sym, ◌∙◌}
use Rattle.std.specs.Option.{option_map}
use Rattle.std.proofs.lemmas.Result.{IfOk-weaker}
use Rattle.jv_class_structure.specs.Seen.{seen_code, seen_method}
use Rattle.jv_place.specs.Inside.Found.{text_in}
use Rattle.jv_place.proofs.Found.{of_code}
use Rattle.jv_place.proofs.method.text_of.Goals as goal

pub returns-in-Some : goal.returns-in-Some
returns-in-Some c =
    let named = c.is_named.ensures.0 c.if-not-is_named.false in
    IfOk-weaker c.text_at.result _ _
    (λ text h. of_code c.args.pool.now (seen_method c.args.method.now) (seen_code c.in-Some.body) c.args.wanted (text_in text) named.0 named.1
    (sym c.code.ensures ∙ ap (option_map seen_code) c.in-Some.is) h)
    c.text_at.ensures
