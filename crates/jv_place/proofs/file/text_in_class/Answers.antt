use Rattle.std.proofs.Common.{rules, tests, ◌≡◌, ◌∙◌, List, ℕ, Some, ap}
use Rattle.std.proofs.lemmas.Result.{IfOk-weaker}
use Rattle.jv_place.specs.Inside.Found.{text_in}
use Rattle.jv_place.proofs.Found.{of_class}
use Rattle.jv_place.proofs.file.text_in_class.Goals as goal

pub returns : goal.returns
returns c =
    let same : c.name.result.now ≡ c.args.class.now = search (rules, tests) in
    IfOk-weaker c.text_in.result _ _
    (λ text h. of_class c.args.file.now c.args.class.now c.args.wanted (text_in text) (c.name.ensures ∙ ap (λ (n : List ℕ). Some n) same) h) c.text_in.ensures
