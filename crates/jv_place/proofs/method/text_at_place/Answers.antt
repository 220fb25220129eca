use Rattle.std.proofs.Common.{ap, sym, ◌∙◌}
use Rattle.std.specs.Option.{option_map}
use Rattle.std.proofs.lemmas.Result.{IfOk-weaker}
use Rattle.jv_class_structure.specs.Seen.{seen_method}
use Rattle.jv_place.specs.Inside.Found.{text_in}
use Rattle.jv_place.proofs.Found.{of_method}
use Rattle.jv_place.proofs.method.text_at_place.Goals as goal

pub returns-in-Some : goal.returns-in-Some
returns-in-Some c =
    IfOk-weaker c.text_of.result _ _
    (λ text h. of_method c.args.file.now c.pool.result.now c.args.place (seen_method c.in-Some.method) c.args.wanted (text_in text) c.pool.ensures
    (sym c.method.ensures.shown ∙ ap (option_map seen_method) c.in-Some.is) h)
    c.text_of.ensures
