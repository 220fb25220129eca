use Rattle.std.proofs.Common.{sym, ◌∙◌}
use Rattle.std.proofs.lemmas.Slice.Eq.{bytes_eq-Decides}
use Rattle.jv_verify_types.specs.Typed.{name_at}
use Rattle.jv_verify_types.proofs.names.TypeNames.is_object.Goals as goal

pub returns : goal.returns
returns c = λ same.
    let names = c.args.self.now.names in
    (bytes_eq-Decides (name_at names c.args.number) (name_at names c.object.result)).0 (sym c.same_name.ensures ∙ same) ∙ c.object.ensures
