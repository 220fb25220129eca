use Rattle.std.proofs.Common.{◌≡◌, ◌∙◌, ap, sym, Some}
use Rattle.std.specs.Prelude.{position, slice_get}
use Rattle.std.specs.Str.{bytes_eq}
use Rattle.std.proofs.lemmas.Result.{IfOk-weaker}
use Rattle.jv_verify_types.specs.Typed.{TypeWorld}
use Rattle.jv_verify_types.proofs.Numbered.{at_position}
use Rattle.jv_verify_types.proofs.names.TypeNames.number_of.Goals as goal

pub returns-in-Some-clause-number : goal.returns-in-Some-clause-number
returns-in-Some-clause-number c =
    let at : position (bytes_eq c.args.name.now) c.args.self.now.names ≡ Some c.in-Some.place =
    ap (λ (w : TypeWorld). position (bytes_eq c.args.name.now) w.names) (sym c.self.view_is) ∙ (sym c.place_of.ensures ∙ c.in-Some.is) in
    IfOk-weaker c.as_number.result (λ n. n ≡ c.in-Some.place) (λ n. slice_get c.args.self.now.names n ≡ Some c.args.name.now)
    (λ n e. ap (slice_get c.args.self.now.names) e ∙ at_position c.args.self.now.names c.args.name.now c.in-Some.place at) c.as_number.ensures.number
