use Rattle.std.proofs.Common.{◌≡◌, List, Option, Some, refl, sym, subst, ◌∙◌}
use Rattle.std.proofs.lemmas.Result.{IfOk-weaker}
use Rattle.jv_pool.specs.Constants.{Entry}
use Rattle.jv_meaning_typing.specs.Named.{FieldUse, field_named_by}
use Rattle.jv_operands.specs.Wants.{field_wants}
use Rattle.jv_operands.specs.Inside.Named.{field_named_in, seen_field}
use Rattle.jv_operands.proofs.wants.field_wants.Goals as goal

pub returns-in-Some : goal.returns-in-Some
returns-in-Some c = λ env of.
    let named : field_named_by env c.args.index ≡ Some (seen_field c.in-Some.field) =
    subst (λ (pool : List Entry). field_named_in pool c.args.index ≡ Some (seen_field c.in-Some.field)) (sym of.pool) (sym c.in-Some.ensures) in
    IfOk-weaker c.access_wants.result _ _
    (λ wants e. e ∙ subst (λ (o : Option FieldUse). field_wants env c.args.access (Some (seen_field c.in-Some.field)) ≡ field_wants env c.args.access o) (sym named) refl)
    (c.access_wants.ensures env of)
